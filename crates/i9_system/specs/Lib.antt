pub mod RealFiles
pub mod RealSink
pub mod System
