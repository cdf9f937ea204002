pub mod Tally
pub mod CoinRule
pub mod Coin
pub mod CoinProtocol
pub mod CoinAnswer
pub mod Private
