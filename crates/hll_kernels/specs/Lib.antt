-- SPDX-License-Identifier: Apache-2.0
pub mod Groups
pub mod Lanes
pub mod Packed
pub mod WeightSums
pub mod ZeroCounts
