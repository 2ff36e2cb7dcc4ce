pub mod DeterminedDistances
