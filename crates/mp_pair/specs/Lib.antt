pub mod Bipartite
pub mod Pairings
pub mod PairingSteps
pub mod Tight
pub mod PairingList
pub mod PairingsView
