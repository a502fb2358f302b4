pub mod FrameLists
