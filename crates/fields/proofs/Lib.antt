pub mod Every
pub mod Lifting
pub mod Tests
