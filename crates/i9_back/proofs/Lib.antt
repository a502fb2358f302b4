pub mod Earlier
pub mod Going
pub mod Watching
pub mod Trails
