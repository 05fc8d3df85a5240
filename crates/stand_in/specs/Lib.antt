pub mod StandIn
pub mod TimingCalls
pub mod LoadCalls
