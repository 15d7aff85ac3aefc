pub mod Admitted
pub mod LentTrees
pub mod FewQueries
