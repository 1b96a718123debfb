pub mod BoundsLaws
