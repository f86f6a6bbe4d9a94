-- SPDX-License-Identifier: Apache-2.0
pub mod Cuts
pub mod Refusal
pub mod Step
pub mod Text
pub mod Watching
