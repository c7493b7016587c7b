-- A body beside a fence.
pub mod Scene
