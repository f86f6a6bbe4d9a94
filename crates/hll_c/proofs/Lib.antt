-- SPDX-License-Identifier: Apache-2.0
mod Agreement
pub mod AtBound
pub mod Answers
pub mod Codes
pub mod Counts
pub mod CouponsInTurn
pub mod GrowingUnions
pub mod Histograms
pub mod Images
pub mod Powers
pub mod States
pub mod StringsByNumber
pub mod Unions
pub mod Whole
pub mod Widths
