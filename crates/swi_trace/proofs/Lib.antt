mod Decimals
mod HexDigits
mod Lines
mod Origins
mod Pairs
mod TextWords
