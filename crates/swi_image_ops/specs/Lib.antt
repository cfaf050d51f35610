pub mod ImageOp
