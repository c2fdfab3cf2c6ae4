pub mod CommandSteps
pub mod Grammar
pub mod Lines
pub mod Print
pub mod Service
