mod Named
mod OneMore
mod PieceSteps
mod PastEnd
pub mod EqualTypes
mod CodeSteps
mod DigitSteps
mod Digits
pub mod EachSteps
mod Fixed
mod Meanings
mod NumberSteps
mod TakenPlaces
mod TakenCounts
mod ItemSteps
mod JoinSteps
mod LastBytes
