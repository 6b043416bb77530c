pub mod ElasticNet
