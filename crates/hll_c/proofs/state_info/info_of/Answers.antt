-- SPDX-License-Identifier: Apache-2.0
use Rattle.std.proofs.Common.{ℕ, List, drop, sym, ap, subst, ◌∙◌}
use Rattle.std.proofs.lemmas.List.{length-drop}
use Rattle.hll_state.specs.Header.{IsWithin}
use Rattle.hll_c.specs.Calls.{bit}
use Rattle.hll_c.proofs.state_info.info_of.Goals as goal

pub returns-clause-ok : goal.returns-clause-ok
returns-clause-ok c =
    let e : List (List ℕ) = c.args.state.now in
    record {
      header = c.in-Some.header;
      has = c.in-Some.ensures.some;
      lg_k_open = c.info_of_header.ensures.lg_k_open ∙ ap bit c.is_open.ensures;
      says = c.info_of_header.ensures.says (drop 10 e) (subst (IsWithin c.in-Some.header) (sym (length-drop 10 e)) c.in-Some.ensures.some.within);
    }
