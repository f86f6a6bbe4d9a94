-- SPDX-License-Identifier: Apache-2.0
-- If the tally admits the request, the inner allocator handles it; otherwise it fails. Assumes `Logic`.
use Rattle.std.proofs.Common.{◌≡◌, ℕ, ◌+◌, Bool, true, false, List, [], ◌∷◌, Ok, Err, refl, ap, w64}
use Rattle.std.proofs.raw_atomic.Walks.{proved, leaves}
use Rattle.std.proofs.alloc.Calls.{Al, α, seen, token, Answer, answer_val, Answer-typed, Answer-Ok, Answer-err, Takes, at_takes, Answered, Takes-goes, Takes-gives, answers}
use Rattle.std.specs.Allocator.{block_if_ok}
use mir.Syntax.{Args, a_type, dnil, dcons}
use mir.Val.{Val, vint, vptr}
use mir.MapTy.{inst_fn}
use base.Logic.{ent, id⊢}
use base.Fml.{ftrue, fsep, flft}
use prog.Memory.{size, align, capped, up}
use contract.BorrowLft.{◌⊑◌, ⊑_trans}
use contract.Monad.{fact}
use contract.Running.{tables}
use Rattle.std.proofs.VecSteps.Shapes.{after}
use types.Run.{stop, fld, addr, lit, no_more, and_then, first, branches, skips, exec, returns, returns_within, enter}
use types.Part.{agg}
use types.Kit.{‵, raw, ◌⊛◌, ⋆, some, later, at_ret, ◌$◌, ◌∵◌, !, qed, by, move, keep, use0, use1, use2, split, join, fsplit, fjoin, feq_i, feq_l, pick, await}
use types.ByLocal.{alloc_all, pass_all, free_all, look_at, get, through, sets, lands_as, env}
use denote.Exit.{yes}
use denote.RattleType.{owns}
use denote.Ref.{shr_vals}
use denote.Opens.{unhide}
use denote.Param.{bounded, param}
use denote.Plain.{uint_vals, uint_Tells}
use denote.RawPtr.{block_ptr}
use denote.Builtin.{bool, usize, RefOf}
use denote.Signature.{Slot, plain, types_at}
use denote.Steps.{heard, nothing, only}
use denote.Triple.Call.{calls_at}
use denote.Triple.Spec.{triple_of}
use denote.Triple.Table.{framed}
use denote.Triple.Walked.{Stays, stay_dropped, walk_of, Goes-dropped}
use Rattle.hll_memory_tests.specs.contracts.refusing.Refusing as struct_of
use Rattle.hll_memory_tests.specs.contracts.refusing.Tally.admits as asks
use Rattle.hll_memory_tests.proofs.refusing.Tally.admits.Met as asks_met
use Rattle.hll_memory_tests.specs.contracts.refusing.RefusingAllocator.allocate as f
use Rattle.hll_memory_tests.proofs.refusing.RefusingAllocator.allocate.Statement.{statement}
use Rattle.hll_memory_tests.proofs.refusing.RefusingAllocator.allocate.Code as code

module _ (Z : Al) where
  abbrev here : Args
  here = bounded (a_type ∷ []) (Z.row, tt) (dcons Z.d (dcons Z.drops dnil))

  abbrev self : Slot 2
  self = RefOf (0 ∷ []) tt (plain (λ _. struct_of.the_row (param 0 Z.row))) (λ _. tt)

  abbrev stayed : Stays (f.ended Z.row Z.g Z.d Z.drops).signature.params (f.ended Z.row Z.g Z.d Z.drops).kept
  stayed = (stay_dropped self yes, (stay_dropped (plain (λ _. usize)) yes, (stay_dropped (plain (λ _. usize)) yes, tt)))

pub allocate_spec : {M : Type 1} → statement M
allocate_spec 𝓤 𝓛 𝓜 𝓡 wired Y L g d dd met _ =
    let Z : Al = record { row = Y; laws = L; g = g; d = d; drops = dd } in
    let En = f.ended Y g d dd in let c = f.clauses Y g d dd 𝓛 𝓜.mem 𝓡.returns in
    let W = walk_of 𝓛 En (stayed Z) c in let 𝓣 = tables 𝓤 𝓛.H 𝓜 𝓡 𝓡.env in let fm = framed 𝓤 𝓛.H 𝓜 𝓣 in
    let fn = inst_fn (here Z) code.function in
    let number = Goes-dropped 𝓛 2 (plain (λ _. usize)) yes (λ κs x w. refl) in
    proved 𝓛 En (stayed Z) c 𝓜 𝓡 (Goes-dropped 𝓛 2 (self Z) yes (λ κs x w. refl), (number, (number, tt)))
    (f.Key.name (here Z)) fn (code.unfolded 𝓤 𝓛.H 𝓜 𝓡 wired (Y, tt) d dd)
    (λ κs. (shr_vals, (uint_vals w64, (uint_vals w64, tt)))) (λ κs. ((λ r vs s. s.0), (uint_Tells w64, (uint_Tells w64, tt)))) (λ κs qs bounds a τ are.
    let κ = κs.0 in let q = qs.0 in let r = a.0 in let n = a.1.0 in let al = a.1.1.0 in let h = r.now.inner in
    let y : W.Ghost = ((κs, qs, bounds, a, (shr_vals r, (uint_vals w64 n, (uint_vals w64 al, tt)))), τ) in
    -- where the two fields are
    let p : ℕ × ℕ = (r.ref_ptr.0, r.ref_ptr.1 + up (align (α Z)) 0) in
    let t : ℕ × ℕ = (r.ref_ptr.0, r.ref_ptr.1 + up 8 (up (align (α Z)) 0 + size (α Z))) in
    let Asks = triple_of 𝓛 asks.signature (asks.spec 𝓛 𝓜.mem 𝓡.returns) in
    let asked : Asks.Ghost = (((κ, tt), (q, tt), tt, (record { ref_ptr = t; now = r.now.tally }, tt), (vptr t.0 t.1 ∷ [], tt)), tt) in
    let Takes = Takes Z 𝓛 𝓜.mem 𝓡.returns in
    let taken : Takes.Ghost = at_takes Z 𝓛 𝓜.mem 𝓡.returns κ q p h n al τ in
    let Said : Type 0 = (capped (size τ) ≡ n) × (capped (align τ) ≡ al) in
    let other = ‵ (flft κs.1.0 qs.1.0) ⊛ ‵ ftrue in
    let ends : (v : Val) (res : Answer.Denot) → ent 𝓤 (⋆ 𝓛 (‵ (Answer.own_val res (v ∷ [])) ∷ ‵ (block_if_ok (token Z h) τ res) ∷ ‵ (flft κ q) ∷ other ∷ [])) (W.post y v) = λ v res.
    qed 𝓛 (‵ (Answer.own_val res (v ∷ [])) ∷ ‵ (block_if_ok (token Z h) τ res) ∷ ‵ (flft κ q) ∷ other ∷ []) ∵
    nothing ! $ nothing ! $ fjoin ! $ nothing ! $ fjoin ! $ nothing ! $ fjoin ! $ move ! (3 ∷ 4 ∷ []) $ join ! $
    by ! (leaves 𝓛 En (stayed Z) c y v res (tt, (tt, (tt, tt))) (tt, (tt, (tt, tt)))) in
    qed 𝓛 (((‵ (flft κ q) ⊛ other) ⊛ ‵ (owns (types_at En.signature.params κs) a y.0.4)) ∷ (raw (fact 𝓤 (κs.1.0 ⊑ Y.lives)) ⊛ raw (fact 𝓤 Said)) ∷ []) ∵
    move ! (1 ∷ []) $ split ! $ heard ! _ (λ le. heard ! Said (λ said.
    -- [the tally; the token of κ; the inner allocator; the other token]
    split ! $ split ! $ move ! (2 ∷ []) $ fsplit ! $ fsplit ! $ move ! (1 ∷ []) $ unhide ! $ fsplit ! $ fsplit ! $ use1 𝓛 (‵ (seen Z κ p h)) (id⊢ 𝓤 _) $ move ! (1 ∷ []) $ fsplit ! $ keep ! (0 ∷ 6 ∷ 2 ∷ 7 ∷ []) $
    enter ! _ _ _ _ _ $ alloc_all ! (λ l. pass_all ! refl ((tt, tt), ((tt, record { fits = are.1.0.1 }), ((tt, record { fits = are.1.1.0.1 }), tt))) $
    sets ! (addr ! (through ! refl (fld ! refl (stop !)))) refl (tt, tt) $
    feq_i ! (List Val) (vptr t.0 t.1 ∷ []) (vptr t.0 t.1 ∷ []) refl $ fjoin ! $ nothing ! $ move ! (1 ∷ []) $ fjoin ! $ nothing ! $ move ! (2 ∷ []) $ join ! $ join ! $
    nothing ! $ move ! (1 ∷ []) $ use2 𝓛 (raw (Asks.pre asked)) (id⊢ 𝓤 _) $
    calls_at ! fm Asks (asks_met.met 𝓤 𝓛 𝓜 𝓡 (code.calls-hll_memory_tests::refusing::Tally::admits 𝓡.env wired)) asked (and_then ! (get ! refl) (no_more !)) (λ u.
    use1 𝓛 (later (some (λ (met : Bool). ((‵ (flft κ q) ⊛ ‵ ftrue) ⊛ ‵ (bool.own_val met (u ∷ []))) ⊛ some (λ (ws : Unit {0} × Unit {0}). ‵ (fsep ftrue ftrue) ⊛ ‵ ftrue)))) (id⊢ 𝓤 _) $
    await ! tt $ pick ! (λ admitted. split ! $ split ! $ split ! $ move ! (2 ∷ []) $ feq_l ! (λ known. lands_as ! (ap only known) refl (tt, tt) $ move ! (3 ∷ 0 ∷ []) $
    -- [the inner allocator; the token of κ; nothing, twice; the other token]
    first ! $ branches ! (get ! refl)
    (λ _. sets ! (addr ! (through ! refl (fld ! refl (stop !)))) refl (tt, tt) $
    use2 𝓛 (raw (Takes.pre taken)) (Takes-goes Z 𝓛 𝓜.mem 𝓡.returns κ q p h (⊑_trans κ κs.1.0 Y.lives bounds.0 le) n al τ said.0 said.1 are.1.0.1 are.1.1.0.1) $
    calls_at ! fm Takes (met.allocate dd) taken (and_then ! (get ! refl) (and_then ! (get ! refl) (and_then ! (get ! refl) (no_more !)))) (λ v.
    use1 𝓛 (later (raw (Answered Z 𝓛 𝓜.mem 𝓡.returns h τ v) ⊛ ‵ (flft κ q))) (Takes-gives Z 𝓛 𝓜.mem 𝓡.returns κ q p h n al τ v) $ await ! tt $ split ! $
    answers Z ! 𝓜.mem 𝓡.returns h τ v
    (λ b o e. fjoin ! $ lands_as ! e refl (Answer-typed true b o) $ returns_within ! (W.post y) refl (look_at ! 0 refl) $ free_all ! refl $
    use0 𝓛 (‵ (Answer.own_val (Ok (block_ptr b o)) (answer_val true b o ∷ []))) (Answer-Ok 𝓛 b o) $
    keep ! (0 ∷ 1 ∷ 2 ∷ 5 ∷ []) $ by ! (ends (answer_val true b o) (Ok (block_ptr b o))))
    (λ e. lands_as ! e refl (Answer-typed false 0 0) $ returns_within ! (W.post y) refl (look_at ! 0 refl) $ free_all ! refl $
    nothing ! $ use0 𝓛 (‵ (Answer.own_val (Err (record {})) (answer_val false 0 0 ∷ []))) (Answer-err 𝓛) $
    keep ! (0 ∷ 1 ∷ 2 ∷ 5 ∷ []) $ by ! (ends (answer_val false 0 0) (Err (record {}))))))
    (λ _. skips ! $ exec ! 𝓣.C 𝓣.Λ (env fn.locals l) (after 3 fn.body) (at_ret _ (W.post y)) $
    sets ! (agg ! (no_more !)) refl (tt, tt) $ sets ! (agg ! (and_then ! (lit ! tt) (and_then ! (get ! refl) (no_more !)))) refl (Answer-typed false 0 0) $
    returns ! (look_at ! 0 refl) $ free_all ! refl $
    nothing ! $ use0 𝓛 (‵ (Answer.own_val (Err (record {})) (answer_val false 0 0 ∷ []))) (Answer-err 𝓛) $
    keep ! (0 ∷ 1 ∷ 3 ∷ 6 ∷ []) $ by ! (ends (answer_val false 0 0) (Err (record {})))))))))))
