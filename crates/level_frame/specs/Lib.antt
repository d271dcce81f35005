pub mod LevelFrame
