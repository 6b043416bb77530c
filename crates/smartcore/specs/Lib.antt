pub mod BgSolver
pub mod LazyNormalization
pub mod LassoOptimizer
pub mod ElasticNet
