-- What the contracts over one node's table ask and cite.
pub mod Places
pub mod NextHop
