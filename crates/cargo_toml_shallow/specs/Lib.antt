-- which texts are refused since they nest too deep, and the faults of completion then
pub mod Deep
