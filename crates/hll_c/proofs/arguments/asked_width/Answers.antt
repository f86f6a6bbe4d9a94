-- SPDX-License-Identifier: Apache-2.0
use Rattle.std.proofs.Common.{◌≡◌, inl, inr}
use Rattle.std.proofs.lemmas.Result.{IfOk-weaker, IfErr-weaker}
use Rattle.hll_base.specs.declared.error.Reason.TheVariants.{Argument}
use Rattle.hll_c.specs.Calls.{AsksWidth, IsAskedWidth, of_bits, as_given}
use Rattle.hll_c.proofs.arguments.asked_width.Goals as goal

pub returns-then-bits-eq-OWN-clause-ok : goal.returns-then-bits-eq-OWN-clause-ok
returns-then-bits-eq-OWN-clause-ok c = as_given c.if-bits-eq-OWN.true

pub returns-clause-ok : goal.returns-clause-ok
returns-clause-ok c = IfOk-weaker c.width_of.result _ (IsAskedWidth c.args.bits c.args.given) (λ w is. of_bits is) c.width_of.ensures.ok

pub returns-clause-outside : goal.returns-clause-outside
returns-clause-outside c =
    IfErr-weaker c.width_of.result _ (λ e. (e ≡ Argument) × (AsksWidth c.args.bits → ⊥))
    (λ e no. (
      no.0,
      λ asks. elim asks [
        | inl is ↦ no.1 is
        | inr zero ↦ c.if-bits-eq-OWN.false zero
      ],
    )) c.width_of.ensures.outside
