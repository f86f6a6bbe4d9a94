-- SPDX-License-Identifier: Apache-2.0
pub mod Series
pub mod Estimate
pub mod FixedPoint
pub mod Monotone
pub mod Double
