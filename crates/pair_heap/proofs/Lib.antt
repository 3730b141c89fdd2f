pub mod OrderOfItems
mod MeldsKeepOrder
mod MeldsKeepItems
mod SlotsStay
mod RootTaken
mod Measures
mod Nodes
mod SlabRooms
