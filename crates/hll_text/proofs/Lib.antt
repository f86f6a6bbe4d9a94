-- SPDX-License-Identifier: Apache-2.0
pub mod ByteLemmas
pub mod CutLemmas
pub mod FaultLemmas
pub mod LaneLemmas
pub mod LeadingLemmas
pub mod NumberLemmas
pub mod PartLemmas
pub mod SendLemmas
pub mod StepLemmas
pub mod StreamLemmas
mod TextRows
