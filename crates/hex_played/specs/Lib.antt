pub mod HexPlayed
