pub mod BusLemmas
pub mod CallLemmas
pub mod FirstStores
pub mod MovesLemmas
pub mod ServeLemmas
pub mod TextLemmas
pub mod ToldCalls
