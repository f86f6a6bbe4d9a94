-- SPDX-License-Identifier: Apache-2.0
pub mod PassingLemmas
pub mod RunLemmas
