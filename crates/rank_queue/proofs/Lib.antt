pub mod KeepsFalling
mod FirstReplaced
