-- SPDX-License-Identifier: Apache-2.0
pub mod EstimatorFields
pub mod Exceptions
pub mod FourBits
pub mod Payload
pub mod State
pub mod Store
