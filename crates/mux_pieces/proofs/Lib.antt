mod Cuts
mod Intrusion
mod Orders
mod Pieces
mod Sayings
