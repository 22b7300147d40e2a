pub mod TellFacts
