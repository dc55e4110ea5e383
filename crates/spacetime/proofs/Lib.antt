mod Door
mod Joined
