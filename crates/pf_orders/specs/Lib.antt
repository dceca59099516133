pub mod StrongComponents
pub mod TopologicalOrders
pub mod GroupDepths
pub mod JoinedGroups
pub mod Internal
