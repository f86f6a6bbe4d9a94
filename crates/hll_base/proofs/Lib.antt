-- SPDX-License-Identifier: Apache-2.0
pub mod Errors
pub mod Hashing
pub mod HashVectors
pub mod Joins
