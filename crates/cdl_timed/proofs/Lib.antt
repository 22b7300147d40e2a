pub mod ValueStates
pub mod RunStates
pub mod SumStates
pub mod HoldStates
