pub mod DataFrames
