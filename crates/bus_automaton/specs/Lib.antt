pub mod SenderTrails
pub mod Processes
pub mod Lawful
pub mod OneProcess
pub mod OneAutomaton
pub mod Buses
pub mod ThreeWordBuses
