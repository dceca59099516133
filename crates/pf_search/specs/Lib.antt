pub mod DepthWalks
pub mod Preorder
pub mod Items
pub mod Laws
pub mod Breadth
pub mod CheapestFirst
pub mod Parents
pub mod Internal
