pub mod KeptLanes
