-- One field is lent to a call for as long as the whole is, and its loan is handed on; another field is lent to the same call, and comes back. Assumes `Logic`.
use mathlib.Core.Path.{◌≡◌, refl}
use Prim.Native.Nat.{ℕ, zero, ◌+◌}
use mathlib.Core.List.{List, [], ◌∷◌}
use seplogic.Ra.Ura.{Ura}
use base.Fraction.{full_share}
use base.Share
use base.Logic.{SProp, ent, sep, wand, id⊢, emp, all_e, apply∗}
use base.Fml.{Lft, GName, Share, ftrue, flft, fobs, fres, fbor}
use mir.Syntax.{Fn, Args, Dict, Sym, a_type, dcons, dnil, named}
use mir.MapTy.{inst_fn}
use mir.Val.{Val, vptr}
use prog.Memory.{Memory, size, align, up}
use prog.Routine.{Routine}
use prog.Wp.{WpFn, Tables}
use sound.WpLaws.{fm_of, WpFn-mono}
use contract.BorrowLft.{◌⊑◌}
use contract.Monad.{Fun, fact, fact_i}
use contract.Running.{tables, tables_of}
use types.Logic.{Logic, sem}
use types.Kit.{‵, raw, ◌⊛◌, some, later, ◌$◌, ◌∵◌, !, qed, by, move, keep, drop, use0, use1, use2, split, split3, join, fsplit, fsplit3, fjoin, fjoin3, fpick, fpack, feq_i, pick, await, group, done}
use types.Run.{addr, stop, fld, and_then, no_more, returns, enter}
use types.ByLocal.{alloc_all, pass_all, free_all, look_at, get, through, sets, lands_as}
use types.Mut.{open_ref}
use types.SemTy.{Body}
use types.Follow.{takes_two, after₂, followed₂}
use denote.Exit.{yes, no}
use denote.RattleType.{RattleType, Denots, owns}
use denote.Laws.{Is, Lawful, shows}
use denote.Memory.{mem, part_at, part_of}
use denote.Builtin.{u8}
use Rattle.base_core.specs.contracts.hash.Digest as Named
use Rattle.base_core.specs.declared.hash.Digest.{Digest}
use Rattle.base_core.specs.declared.fault.Fault.{Fault}
use denote.Ref.{Bor, MutBor, mut_vals, shr_vals, mut_Tells, shr_Tells}
use denote.Follow.{such_by, follows_by, follows_so}
use denote.Signature.{plain, mut_ref_to, shr_ref_to, types_at}
use denote.Param.{param, layout, bounded}
use denote.Param.Laws.{Laws, param_laws, of_field}
use denote.Param.Shared.{copy_shared}
use denote.Struct.Struct.{Struct}
use denote.Struct.Members.{Member, rows_of, parts_at}
use denote.Struct.Parts.{shape_of, PartsBack, Struct-parts}
use denote.Struct.Field.{shr_slice_field, u8-field}
use denote.Struct.Laws.{shr_slice_laws, shr_slice_copy, u8-laws, u8-copy}
use denote.Enum.Loose.{loose_lawful}
use denote.Steps.{heard, peeks, nothing}
use denote.Triple.Call.{calls_at}
use denote.Triple.Clauses.{Clauses, Ended, Lasts, lasts, closing}
use denote.Triple.Entry.{Res}
use denote.Triple.Spec.{Meets, triple_of}
use denote.Triple.Statement.{Contract, Triple}
use denote.Triple.Table.{entered}
use denote.Triple.Walked.{Stays, stay_dropped, walk_of, walked, Goes-spent_ref, Goes-dropped, walk_Meets}
use Rattle.std.proofs.raw_atomic.Walks.{leaves}
use Rattle.std.specs.Prelude.{⊤, IfOk, Option, Result}
use Rattle.std.specs.Option.{option_copied}
use Rattle.std.specs.FinMap as map
use Rattle.std.specs.contracts.option.Option as OptionRow
use Rattle.std.specs.contracts.result.Result as ResultRow
use Rattle.std.proofs.option.Option.TheLaws as OptionLaws
use Rattle.std.proofs.result.Result.TheLaws as ResultLaws
use Rattle.text_store.specs.Loading.{IsNamed, Loaded, NO_NAME}
use Rattle.text_store.specs.declared.texts.Texts.{Ghosts}
use Rattle.partial_state.specs.Recorders.{NotesLoad}
use Rattle.partial_state.specs.declared.noting.Notes.{Notes}
use Rattle.partial_state.specs.declared.noting.Noting.{Noting}
use Rattle.base_core.specs.contracts.fault.Fault as Failure
use Rattle.partial_state.specs.contracts.noting.Notes as Kept
use Rattle.partial_state.specs.contracts.noting.Noting as Whole
use Rattle.base_core.proofs.fault.Fault.TheLaws as FailureLaws
use Rattle.partial_state.proofs.noting.Notes.TheLaws as KeptLaws
use Rattle.partial_state.specs.contracts.noting.load_noted as G
use Rattle.partial_state.proofs.noting.load_noted.Symbol.{name as #callee}
use Rattle.partial_state.proofs.noting.load_noted.Met as noted
use Rattle.partial_state.specs.contracts.noting.load_beside as F
use Rattle.partial_state.specs.contracts.noting.load_beside.Key.{name as #self}
use Rattle.partial_state.proofs.noting.load_beside.Statement as stated
use Rattle.partial_state.proofs.noting.load_beside.Code as code

module _ (X : RattleType) (L : Laws X) where
  abbrev P : RattleType
  P = param 0 X

  abbrev N : RattleType
  N = Kept.the_row

  abbrev R : RattleType
  R = Whole.the_row P

  abbrev ms : List Member
  ms = record { row = P; ty = layout P } ∷ record { row = (Kept.the_field).row; ty = layout N } ∷ []

  abbrev ν : Sym
  ν = (Whole.the_type P).name

  abbrev made : X.Denot → Notes → Noting X.Denot
  made s n = record { store = s; notes = n }

  -- where the two fields lie
  abbrev at₁ : ℕ → ℕ
  at₁ o = o + up (align (layout P)) zero

  abbrev at₂ : ℕ → ℕ
  at₂ o = o + up (align (layout N)) (up (align (layout P)) zero + size (layout P))

  module _ {M : Type 1} {𝓤 : Ura M} (𝓛 : Logic 𝓤) (b o : ℕ) where
    abbrev Rest : SProp 𝓤
    Rest = PartsBack 𝓛 full_share ν ms b o

    halves : (h : Noting X.Denot) → ent 𝓤 (sem 𝓛 ((mem R).own_at h b o)) (sep 𝓤 (sem 𝓛 ((mem P).own_at h.store b (at₁ o))) (sep 𝓤 (sem 𝓛 ((mem N).own_at h.notes b (at₂ o))) Rest))
    unfolding part_of
    halves h =
        let a : Denots (rows_of ms) = (Whole.the_type P).to h in
        qed 𝓛 (‵ (part_at (Struct (shape_of ν ms)) full_share a b o) ∷ []) ∵
        use1 𝓛 (‵ (parts_at full_share ms zero a b o) ⊛ raw Rest) (Struct-parts 𝓛 full_share ν ms ((param_laws 0 X L).lawful 𝓛, ((KeptLaws.the_field_loose).lawful 𝓛, tt)) a b o) $
        split ! $ fsplit3 ! $ move ! (2 ∷ []) $ drop ! $ done !

    back : (s : X.Denot) (n : Notes) → ent 𝓤 (sep 𝓤 (sem 𝓛 ((mem P).own_at s b (at₁ o))) (sep 𝓤 (sem 𝓛 ((mem N).own_at n b (at₂ o))) Rest)) (sem 𝓛 ((mem R).own_at (made s n) b o))
    unfolding part_of
    back s n =
        let a : Denots (rows_of ms) = (Whole.the_type P).to (made s n) in
        qed 𝓛 (‵ ((mem P).own_at s b (at₁ o)) ∷ ‵ ((mem N).own_at n b (at₂ o)) ∷ raw Rest ∷ []) ∵ nothing ! $ move ! (1 ∷ 2 ∷ 0 ∷ []) $ fjoin3 ! $ move ! (1 ∷ []) $
        use1 𝓛 (raw (wand 𝓤 (sem 𝓛 (parts_at full_share ms zero a b o)) (sem 𝓛 (part_at (Struct (shape_of ν ms)) full_share a b o))))
        (all_e 𝓤 (λ (x : Denots (rows_of ms)). wand 𝓤 (sem 𝓛 (parts_at full_share ms zero x b o)) (sem 𝓛 (part_at (Struct (shape_of ν ms)) full_share x b o))) a) $
        move ! (1 ∷ 0 ∷ []) $ by ! (apply∗ 𝓤 (sem 𝓛 (parts_at full_share ms zero a b o)) (sem 𝓛 (part_at (Struct (shape_of ν ms)) full_share a b o)))

-- what is answered, as a type
abbrev Text : Lft → RattleType
Text κ = (shr_slice_field (record { mir = named 0; lft = κ }) u8 tt).row

abbrev text_laws : (κ : Lft) → Laws (Text κ)
text_laws κ =
    let F = shr_slice_field (record { mir = named 0; lft = κ }) u8 tt in
    of_field F (shr_slice_laws (record { mir = named 0; lft = κ }) u8 tt) refl (copy_shared F (shr_slice_copy (record { mir = named 0; lft = κ }) u8 tt (of_field u8-field u8-laws refl (copy_shared u8-field u8-copy)).shr_laws))

abbrev Outcome : Lft → RattleType
Outcome κ = ResultRow.the_row (OptionRow.the_row (Text κ)) Failure.the_row

outcome_lawful : {M : Type 1} {𝓤 : Ura M} (𝓛 : Logic 𝓤) (κ : Lft) → Lawful 𝓛 (Outcome κ)
outcome_lawful 𝓛 κ = loose_lawful (ResultRow.the_type (OptionRow.the_row (Text κ)) Failure.the_row) (ResultLaws.the_loose (OptionRow.the_row (Text κ)) Failure.the_row (OptionLaws.the_row_laws (Text κ) (text_laws κ)) FailureLaws.the_row_laws) tt 𝓛

abbrev Answer : Type 0
Answer = Result (Option (Bor (List ℕ))) Fault

module _ (X : RattleType) (L : Laws X) (g : Ghosts X.Denot) (dict : Dict) where
  -- what a load leaves of the store, and what else is ensured of it
  abbrev Left : X.Denot → Digest → Answer → X.Denot → Type 0
  Left old d r new = Loaded g.store old new d.0 r

  abbrev Found : X.Denot → Digest → Answer → Type 0
  Found old d r = IfOk r (λ found. option_copied found ≡ map.get (g.store.texts old) d.0) × IsNamed (g.store.texts old)

  abbrev Told : X.Denot → Digest → Answer → Notes → Notes → Type 0
  Told old d r kept left = IfOk r (λ found. option_copied found ≡ map.get (g.store.texts old) d.0) × IsNamed (g.store.texts old) × NotesLoad kept left r

  -- a value that the whole may end as
  abbrev Becomes : (Noting X.Denot → Type 0) → Type 0
  Becomes Fact = (s : (Noting X.Denot → Noting X.Denot) × Noting X.Denot) × ((w : Noting X.Denot) → ⊤) × Fact s.1

  abbrev Ends : Ended
  Ends = G.ended X g dict

  abbrev args : Args
  args = bounded (a_type ∷ []) (X, tt) (dcons dict dnil)

  abbrev here : Fn
  here = inst_fn args code.function

  abbrev ended : Ended
  ended = F.ended X g dict

  abbrev stayed : Stays ended.signature.params ended.kept
  stayed = (stay_dropped (mut_ref_to (0 ∷ []) tt (plain (λ _. R X L))) no, (stay_dropped (shr_ref_to (1 ∷ []) tt (plain (λ _. Named.the_row))) yes, tt))

  module _ {M : Type 1} {𝓤 : Ura M} (𝓛 : Logic 𝓤) (at_mem : Memory → SProp 𝓤) (run : Routine → Fun 𝓤) where
    open 𝓛 use {H}

    abbrev held : Clauses 𝓤 ended
    held = F.clauses X g dict 𝓛 at_mem run

    abbrev Callee : Contract 𝓤
    Callee = triple_of 𝓛 (G.signature X) (G.spec X g dict 𝓛 at_mem run)

    abbrev Bound : Type 0
    Bound = (walk_of 𝓛 ended stayed held).Ghost

    abbrev spelled : Bound → Bound
    spelled z = ((z.0.0, z.0.1, z.0.2, z.0.3, (mut_vals z.0.3.0, (shr_vals z.0.3.1.0, tt))), z.1)

    module _ (𝓣 : Tables 𝓤 H) (met : Triple 𝓤 (𝓣.C (#callee args)) Callee) where
      walk : (z : Bound) → ent 𝓤 ((walk_of 𝓛 ended stayed held).pre (spelled z)) (WpFn 𝓤 H 𝓣.C 𝓣.Λ here ((walk_of 𝓛 ended stayed held).args (spelled z)) ((walk_of 𝓛 ended stayed held).post (spelled z)))
      unfolding such_by follows_by
      walk z =
          let κ : Lft = z.0.0.0 in let κd : Lft = z.0.0.1.0 in let κt : Lft = z.0.0.1.1.0 in
          let q : Share = z.0.1.0 in let qd : Share = z.0.1.1.0 in let qt : Share = z.0.1.1.1.0 in
          let b : ℕ = z.0.3.0.ref_ptr.0 in let o : ℕ = z.0.3.0.ref_ptr.1 in let γ : GName = z.0.3.0.ghost_name in let h : Noting X.Denot = z.0.3.0.now in
          let Post : Val → SProp 𝓤 = (walk_of 𝓛 ended stayed held).post (spelled z) in
          let Store : RattleType = P X L in let Both : RattleType = R X L in
          let F : X.Denot → Notes → Noting X.Denot = made X L in
          let d : Digest = z.0.3.1.0.now in
          qed 𝓛 (((‵ (flft κ q) ⊛ ‵ (flft κd qd) ⊛ ‵ (flft κt qt) ⊛ ‵ ftrue) ⊛ ‵ (owns (types_at ended.signature.params z.0.0) z.0.3 (spelled z).0.4)) ∷ (raw (fact 𝓤 (κt ⊑ X.lives)) ⊛ ‵ ftrue) ∷ []) ∵
          move ! (1 ∷ []) $ split ! $ heard ! (κt ⊑ X.lives) (λ within. drop ! $
          split ! $ split3 ! $ move ! (2 ∷ []) $ split ! $ move ! (4 ∷ []) $ fsplit ! $ fsplit3 ! $ keep ! (1 ∷ 2 ∷ 6 ∷ 3 ∷ 7 ∷ 4 ∷ []) $
          enter ! 𝓣.C 𝓣.Λ here (vptr b o ∷ vptr z.0.3.1.0.ref_ptr.0 z.0.3.1.0.ref_ptr.1 ∷ []) _ $ alloc_all ! (λ l. pass_all ! refl ((tt, tt), ((tt, tt), tt)) $
          sets ! (addr ! (through ! refl (fld ! refl (stop !)))) refl (tt, tt) $
          sets ! (addr ! (through ! refl (fld ! refl (stop !)))) refl (tt, tt) $
          open_ref ! tt (mem Both) {b = b} {o = o} $
          use1 𝓛 (‵ ((mem Store).own_at h.store b (at₁ X L o)) ⊛ ‵ ((mem (N X L)).own_at h.notes b (at₂ X L o)) ⊛ raw (Rest X L 𝓛 b o)) (halves X L 𝓛 b o h) $ split3 ! $
          move ! (3 ∷ 4 ∷ 5 ∷ 0 ∷ 1 ∷ 2 ∷ []) $ group ! 6 $
          use1 𝓛 (later (some (λ (γs : GName × GName). (‵ (fobs γs.0 (Store.coded.code h.store)) ⊛ ‵ (fbor κ (Body (mem Store) b (at₁ X L o) γs.0)))
          ⊛ (‵ (fobs γs.1 ((N X L).coded.code h.notes)) ⊛ ‵ (fbor κ (Body (mem (N X L)) b (at₂ X L o) γs.1))) ⊛ ‵ (flft κ q) ⊛ ‵ (after₂ (mem Both) (mem Store) (mem (N X L)) γ γs.0 γs.1 F))))
          (takes_two 𝓛 (mem Both) (mem Store) (mem (N X L)) F κ q b o b (at₁ X L o) b (at₂ X L o) γ (Rest X L 𝓛 b o) (back X L 𝓛 b o) (Both.coded.code h) (Both.coded.code h) h.store h.notes) $ await ! tt $ pick ! (λ γs. split3 ! $
          move ! (2 ∷ []) $ split ! $ use1 𝓛 (‵ (flft κ (Share.left q)) ⊛ ‵ (flft κ (Share.right q))) (𝓛.lfts.lft_split κ q) $ split ! $
          move ! (3 ∷ []) $ split ! $ feq_i ! (List Val) (vptr b (at₁ X L o) ∷ []) (vptr b (at₁ X L o) ∷ []) refl $ fjoin3 ! $
          move ! (4 ∷ []) $ split ! $ feq_i ! (List Val) (vptr b (at₂ X L o) ∷ []) (vptr b (at₂ X L o) ∷ []) refl $ fjoin3 ! $
          -- [the notes; the store; two halves of the token; what follows; the digest; the other tokens]
          move ! (0 ∷ 5 ∷ []) $ fjoin ! $ move ! (1 ∷ 0 ∷ []) $ fjoin ! $
          nothing ! $ move ! (6 ∷ 0 ∷ []) $ join ! $ move ! (5 ∷ 0 ∷ []) $ join ! $ move ! (3 ∷ 0 ∷ []) $ join ! $ move ! (2 ∷ 0 ∷ []) $ join ! $ join ! $
          use0 𝓛 (raw (fact 𝓤 (κt ⊑ X.lives))) (fact_i 𝓤 (κt ⊑ X.lives) (emp 𝓤) within) $ nothing ! $ move ! (1 ∷ 0 ∷ []) $ join ! $ move ! (1 ∷ 0 ∷ []) $
          let store : MutBor X.Denot = record { ref_ptr = (b, at₁ X L o); ghost_name = γs.0; now = h.store } in
          let notes : MutBor Notes = record { ref_ptr = (b, at₂ X L o); ghost_name = γs.1; now = h.notes } in
          let y : (Callee).Ghost = (((κ, (κ, (κd, (κt, tt)))), (Share.left q, (Share.right q, (qd, (qt, tt)))), z.0.2, (store, (notes, z.0.3.1)), (mut_vals store, (mut_vals notes, (shr_vals z.0.3.1.0, tt)))), tt) in
          use2 𝓛 (raw ((Callee).pre y)) (id⊢ 𝓤 _) $
          calls_at ! (fm_of 𝓤 H 𝓛.laws 𝓣) Callee met y (and_then ! (get ! refl) (and_then ! (get ! refl) (and_then ! (get ! refl) (no_more !)))) (λ v.
          use1 𝓛 (later (some (λ (r : Res (G.signature X) y.0.0). ((‵ (flft κ (Share.left q)) ⊛ ‵ (flft κ (Share.right q)) ⊛ ‵ (flft κd qd) ⊛ ‵ (flft κt qt) ⊛ ‵ ftrue) ⊛ ‵ ((Outcome κ).own_val r (v ∷ [])))
          ⊛ some (λ (ws : Lasts Ends y.0.0 y.0.3). ‵ (lasts Ends y.0.0 y.0.3 ws) ⊛ (‵ (follows_so Store Store γs.0 NO_NAME (λ _ _. ⊤) (λ new. Left h.store d r new)) ⊛ raw (fact 𝓤 (Told h.store d r h.notes ws.1.0))))))) (id⊢ 𝓤 _) $ await ! tt $ pick ! (λ r. split ! $
          split ! $ move ! (1 ∷ []) $ peeks ! (Outcome κ) (Is (Outcome κ)) (shows 𝓛 (Outcome κ)) r (v ∷ []) (λ is.
          lands_as ! refl refl ((outcome_lawful 𝓛 κ).typed r (v ∷ []) is).0 $
          returns ! (look_at ! 0 refl) $ free_all ! refl $
          move ! (2 ∷ []) $ pick ! (λ ws. split ! $ fsplit ! $ drop ! $ fsplit ! $ fsplit ! $ keep ! (0 ∷ 3 ∷ 4 ∷ 5 ∷ 6 ∷ []) $
          -- [what is said of the notes; the ensures; the result; the tokens; what follows]
          move ! (1 ∷ []) $ split ! $ move ! (1 ∷ []) $ heard ! (Told h.store d r h.notes ws.1.0) (λ told. fpick ! (λ s.
          join ! $ move ! (0 ∷ 3 ∷ []) $ use2 𝓛 (‵ (fres γ (Both.coded.code (F s.0.1 ws.1.0)))) (followed₂ 𝓛 (mem Both) (mem Store) (mem (N X L)) F γ γs.0 γs.1 s.0.1 ws.1.0) $
          fpack ! (Becomes (λ new. Left h.store d r new.store × NotesLoad h.notes new.notes r)) (λ t. fres γ (Both.coded.code t.0.1)) (((λ _. F s.0.1 ws.1.0), F s.0.1 ws.1.0), (λ _. tt), (s.2, told.2)) $
          -- [what is said of the whole; the result; the tokens]
          move ! (2 ∷ []) $ split3 ! $ move ! (0 ∷ 1 ∷ []) $ use2 𝓛 (‵ (flft κ q)) (𝓛.lfts.lft_join κ q) $ move ! (0 ∷ 1 ∷ []) $ join ! $
          use0 𝓛 (raw (fact 𝓤 (Found h.store d r))) (fact_i 𝓤 (Found h.store d r) (emp 𝓤) (told.0, told.1)) $ move ! (2 ∷ 0 ∷ []) $ join ! $
          nothing ! $ nothing ! $ fjoin ! $ nothing ! $ fjoin ! $ move ! (2 ∷ 0 ∷ 3 ∷ 1 ∷ []) $ by ! (leaves 𝓛 ended stayed held (spelled z) v r (tt, (tt, tt)) (tt, (tt, tt))))))))))))

    meets : (𝓣 : Tables 𝓤 H) → Triple 𝓤 (𝓣.C (#callee args)) Callee → Meets 𝓛 ended.signature (WpFn 𝓤 H 𝓣.C 𝓣.Λ here) (closing 𝓛 ended held)
    meets 𝓣 met =
        walk_Meets 𝓛 ended stayed (Goes-spent_ref 𝓛 3 (0 ∷ []) tt (plain (λ _. R X L)), (Goes-dropped 𝓛 3 (shr_ref_to (1 ∷ []) tt (plain (λ _. Named.the_row))) yes (λ κs x f. refl), tt)) held (WpFn 𝓤 H 𝓣.C 𝓣.Λ here) (WpFn-mono 𝓤 H 𝓛.laws 𝓣 here)
        (walked 𝓛 ended stayed held (WpFn 𝓤 H 𝓣.C 𝓣.Λ here) (λ κs. (mut_vals, (shr_vals, tt))) (λ κs. (mut_Tells (named 0) κs.0 (R X L), (shr_Tells (named 1) κs.1.0 Named.the_row, tt)))
        (λ κs qs bounds a y are. walk 𝓣 met ((κs, qs, bounds, a, (mut_vals a.0, (shr_vals a.1.0, tt))), y)))

pub load_beside_spec : {M : Type 1} → stated.statement M
unfolding tables_of
load_beside_spec 𝓤 𝓛 𝓜 𝓡 wired X L g dict met =
    let 𝓣 : Tables 𝓤 𝓛.H = tables_of 𝓤 𝓛.H 𝓜 (tables 𝓤 𝓛.H 𝓜 𝓡 𝓡.env) in
    entered 𝓤 𝓛.H (triple_of 𝓛 (F.signature X) (F.spec X g dict 𝓛 𝓜.mem 𝓡.returns)) 𝓣.C 𝓣.Λ (#self (args X L g dict)) (here X L g dict) (code.unfolded 𝓤 𝓛.H 𝓜 𝓡 wired (X, tt) dict)
    (meets X L g dict 𝓛 𝓜.mem 𝓡.returns 𝓣 (noted.met 𝓤 𝓛 𝓜 𝓡 (code.calls-partial_state::noting::load_noted 𝓡.env wired) X L g dict met))
