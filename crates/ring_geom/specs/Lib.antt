-- rectangles that hold shapes, and rectangles in parts
pub mod Bounding
pub mod Quarters
-- what searches rest on
pub mod Laws
pub mod MeasureLaws
