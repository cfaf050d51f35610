mod Exits
mod Foreign
mod TwoImages
