-- What reading says of an input and writing of a list, and the round trips, with what they rest on: map bytes, the places of fields, of
-- map bytes and those that refusals carry; the longest one form; and that the first 966 bytes decide how an input is read. The crates above
-- may cite what is public.
mod MapBytes
pub mod Copied
pub mod Places
mod CarriedPlaces
pub mod FieldTrip
pub mod HeaderTrip
pub mod EntryTrip
pub mod ListTrip
mod MapPlaces
pub mod ReadLaws
pub mod ReadRows
pub mod RoundTrip
pub mod WriteLaws
pub mod LongestList
pub mod FirstBytes
pub mod Examples
-- What the code's proofs cite, case by case. The round trips cite some of it too.
mod EntryCases
mod ReadCases
pub mod FormCases
pub mod WriteCases
mod CallCases
