-- What is proved of the plan language.
-- laws of tests, lists and pairs
pub mod Bools
pub mod Lists
pub mod Pairs
-- acceptance
pub mod Clash
pub mod Lookup
pub mod Accepted
pub mod FitFields
pub mod BareNames
-- reading and writing are inverse
pub mod Versions
pub mod Stands
pub mod Codec
pub mod FieldTrip
pub mod CodeTrip
pub mod ExprTrip
pub mod PartTrip
pub mod CatalogueTrip
pub mod HeadTrip
pub mod PlanTrip
pub mod RoundTrip
pub mod Version1
-- codes
pub mod Refusals
