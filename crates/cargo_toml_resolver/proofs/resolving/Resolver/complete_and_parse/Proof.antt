-- `complete_and_parse` by hand. Where the lender is no first parameter, and where the answer owns memory, no proof is generated of how the lender is left.
-- The manifest is lent again to be completed, and comes back as completing left it. `shared` then lends it for good, and says how it is left. `resolved`
-- makes the answer of both. What is left is carried to the end, where the facts of the three calls say it of the answer.
-- F is the filter, S the state of the maps and I its hasher, X and N the metadata of the manifest and of the one that is handed in, P the folders and Q their
-- roots. The lifetimes: 0 self, 1 the filter, 2 the manifest, 3 and 4 what is handed in, 5 to 11 these seven types. `tK` is the token of lifetime K.
use Rattle.std.proofs.Common.{◌≡◌, ℕ, List, [], ◌∷◌, ◌++◌, inl, refl, sym, ap, subst}
use Rattle.std.proofs.{raw_atomic.Walks.proved_at, raw_atomic.Walks.leaves, result.Result.TheLaws.the_row_laws as result_laws, option.Option.TheLaws.the_row_laws as option_laws}
use mir.{Syntax.a_type, Syntax.dcons, Syntax.dnil, Syntax.named, Val.Val, Val.vptr, MapTy.inst_fn}
use base.{Fraction.full_share, Logic.ent, Logic.sep, Logic.emp, Logic.wand, Logic.apply∗, Logic.id⊢, Fml.Lft, Fml.ftrue, Fml.flft, Fml.fdead, FractionLaws.common}
use prog.Wp.{WpFn}
use types.Kit.{Item, ‵, raw, ◌⊛◌, some, later, ◌$◌, ◌∵◌, !, qed, by, move, keep, drop, use0, use1, use2, use3, split, join, fsplit, pick, await, rewrite, suffices}
use types.Run.{enter, addr, of_opd, stop, no_more, and_then, returns}
use types.ByLocal.{alloc_all, pass_all, free_all, look_at, get, through, sets, lands_as}
use types.Tokens.{lft_new, lft_end, lft-common}
use contract.{Running.tables, Monad.fact, Monad.fact_i, BorrowLft.◌⊑◌, BorrowLft.meet_⊑_left, BorrowLft.meet_⊑_right}
use denote.{Exit.yes, Exit.no, Lend.lends_again, Lend.comes_back, Lend.LentAgain, Laws.Is, Laws.shows, Param.bounded, Param.param, Param.layout, Param.Laws.param_laws, Param.Laws.of_field, Param.Shared.copy_shared, RattleType.RattleType}
use denote.{RattleType.owns, Ref.MutRef, Ref.ShrRef, Ref.Bor, Ref.mut_Tells, Ref.shr_vals, Ref.shr_Tells, Signature.types_at, Signature.named_lft, Signature.type_at, Steps.nothing, Steps.owned, Steps.heard, Steps.peeks, Steps.only}
use denote.{Struct.Field.shr_ref_field, Struct.Field.unit-field, Struct.Laws.unit-laws, Struct.Laws.unit-copy, Struct.Tuple.Tuple, Struct.Tuple.laws_at, Struct.Tuple.tuple_name, Triple.Call.calls_at, Triple.Clauses.Lasts}
use denote.{Triple.Clauses.lasts, Triple.Spec.triple_of, Triple.Table.framed, Triple.Walked.Stays, Triple.Walked.stay_dropped, Triple.Walked.walk_of, Triple.Walked.Goes-dropped, Builtin.unit, Text.str-field}
use Rattle.std.specs.Prelude.{OnErr, OnOk, IfErr, IfOk, Err, option_map}
use Rattle.cargo_toml_parts.specs.declared.error.Error.{Memory}
use Rattle.cargo_toml_resolver.specs.{Lent.IsLentAs, Lent.IsLentAfter, Lent.IsLeftAfter, contracts.resolving.Resolver.complete_and_parse.ended, contracts.resolving.Resolver.complete_and_parse.clauses, Filtered.filter_of, Filtered.limit_of}
use Rattle.cargo_toml_resolver.specs.Parsed.{IsResolvedFor}
use Rattle.cargo_toml_resolver.specs.contracts.resolving.Resolver.complete_and_parse.Key.{name as #self}
use Rattle.cargo_toml_resolver.proofs.{Lent.rests_so, Lent.Completing, Lent.Answering, Lent.left_after, Lent.lent_after, Lent.outcome_after, Lent.wrapped_after, Words.slot_at, Words.row_at, Words.single, Words.ref_laws, Words.global_makes}
use Rattle.cargo_toml_resolver.proofs.{Words.local_at, resolving.Resolver.complete_and_parse.Statement.statement}
use borrow.{Table.Str.str_laws, Table.OneValue.wt_as}
use Rattle.cargo_toml_graph.specs.Action.{Text}
use Rattle.cargo_toml_resolve.specs.Filter.{HasNameFilter}
use Rattle.cargo_toml_manifest.specs.{Choosing.MayFind, Choosing.handed_of, Choosing.roots_of, Choosing.RootsTold, Manifests.ManifestMeaning, Manifests.held, Completed.IsCompleted, Completing.Meets, Completing.complete}
use Rattle.cargo_toml_manifest.specs.Refusing.{IsRefusedBy, MayLose}
use Rattle.cargo_toml_discovery.specs.Told.{Told}
use base.Share
use Rattle.std.specs.contracts.result.Result as Result
use Rattle.cargo_toml_features.proofs.features.Features.TheLaws as Features-laws
use Rattle.cargo_toml_features.specs.contracts.features.Features as Features
use Rattle.cargo_toml_parts.specs.contracts.error.Error as Error
use Rattle.cargo_toml_parts.proofs.error.Error.TheLaws as Error-laws
use Rattle.cargo_toml_manifest.specs.contracts.manifest.Manifest as Manifest
use Rattle.cargo_toml_resolver.specs.contracts.resolving.Resolver as Resolver
use Rattle.cargo_toml_manifest.specs.contracts.manifest.Manifest.complete_from_abstract_filesystem as complete_from
use Rattle.cargo_toml_manifest.proofs.manifest.Manifest.complete_from_abstract_filesystem.Met as complete_from-met
use Rattle.cargo_toml_resolver.specs.contracts.complete_and_parse.shared as shared
use Rattle.cargo_toml_resolver.proofs.complete_and_parse.shared.Met as shared-met
use Rattle.cargo_toml_resolver.specs.contracts.resolving.Resolver.resolved as resolved
use Rattle.cargo_toml_resolver.proofs.resolving.Resolver.resolved.Met as resolved-met
use Rattle.cargo_toml_manifest.proofs.manifest.Manifest.TheLaws as Manifest-laws
use Rattle.std.proofs.alloc.Global.TheLaws as Global-laws
use Rattle.cargo_toml_resolver.proofs.resolving.Resolver.complete_and_parse.Code as code

pub complete_and_parse_spec : {M : Type 1} → statement M
complete_and_parse_spec 𝓤 𝓛 𝓜 𝓡 wired F S I X N P Q LF LS LI LX LN LP LQ f df dfm dfo b' db h dh c dc drF drS drI p dp q dq drX drP mF mFm mFo mB mH mC gF gS gI mP mQ gX gP =
    let H = 𝓛.H in let A = 𝓛.A in let 𝓣 = tables 𝓤 H 𝓜 𝓡 𝓡.env in let T = ended F S I X N P Q f df dfm dfo b' db h dh c dc drF drS drI p dp q dq drX drP in
    let inst = bounded (a_type ∷ a_type ∷ a_type ∷ a_type ∷ a_type ∷ a_type ∷ a_type ∷ []) (F, (S, (I, (X, (N, (P, (Q, tt))))))) (dcons df (dcons dfm (dcons dfo (dcons db (dcons dh (dcons dc (dcons drF (dcons drS (dcons drI (dcons dp (dcons dq (dcons drX (dcons drP dnil))))))))))))) in
    let fn = inst_fn inst code.function in let cl = clauses F S I X N P Q f df dfm dfo b' db h dh c dc drF drS drI p dp q dq drX drP 𝓛 𝓜.mem 𝓡.returns in
    let ps = T.signature.params in let hs : Stays ps T.kept = (stay_dropped (slot_at 0 ps) yes, (stay_dropped (slot_at 1 ps) yes, (stay_dropped (slot_at 2 ps) no, (stay_dropped (slot_at 3 ps) no, (stay_dropped (slot_at 4 ps) yes, tt))))) in
    proved_at 𝓛 T hs cl 𝓜 𝓡 (Goes-dropped 𝓛 12 (slot_at 0 ps) yes (λ κs x f. refl), (Goes-dropped 𝓛 12 (slot_at 1 ps) yes (λ κs x f. refl), (Goes-dropped 𝓛 12 (slot_at 2 ps) no (λ κs x f. refl), (Goes-dropped 𝓛 12 (slot_at 3 ps) no (λ κs x f. refl), (Goes-dropped 𝓛 12 (slot_at 4 ps) yes (λ κs x f. refl), tt)))))
    (#self inst) fn (code.unfolded 𝓤 H 𝓜 𝓡 wired (F, (S, (I, (X, (N, (P, (Q, tt))))))) df dfm dfo db dh dc drF drS drI dp dq drX drP) (λ z are.
    let κs = z.0.0 in let qs = z.0.1 in let le = z.0.2 in let a = z.0.3 in let us = z.0.4 in let Rs = types_at ps κs in
    let κ0 = κs.0 in let q0 = qs.0 in let t0 : Item 𝓤 = ‵ (flft κ0 q0) in
    let κ1 = κs.1.0 in let q1 = qs.1.0 in let t1 : Item 𝓤 = ‵ (flft κ1 q1) in
    let κ2 = κs.1.1.0 in let q2 = qs.1.1.0 in let t2 : Item 𝓤 = ‵ (flft κ2 q2) in
    let κ3 = κs.1.1.1.0 in let q3 = qs.1.1.1.0 in let t3 : Item 𝓤 = ‵ (flft κ3 q3) in
    let κ4 = κs.1.1.1.1.0 in let q4 = qs.1.1.1.1.0 in let t4 : Item 𝓤 = ‵ (flft κ4 q4) in
    let κ5 = κs.1.1.1.1.1.0 in let q5 = qs.1.1.1.1.1.0 in let t5 : Item 𝓤 = ‵ (flft κ5 q5) in
    let κ6 = κs.1.1.1.1.1.1.0 in let q6 = qs.1.1.1.1.1.1.0 in let t6 : Item 𝓤 = ‵ (flft κ6 q6) in
    let κ7 = κs.1.1.1.1.1.1.1.0 in let q7 = qs.1.1.1.1.1.1.1.0 in let t7 : Item 𝓤 = ‵ (flft κ7 q7) in
    let κ8 = κs.1.1.1.1.1.1.1.1.0 in let q8 = qs.1.1.1.1.1.1.1.1.0 in let t8 : Item 𝓤 = ‵ (flft κ8 q8) in
    let κ9 = κs.1.1.1.1.1.1.1.1.1.0 in let q9 = qs.1.1.1.1.1.1.1.1.1.0 in let t9 : Item 𝓤 = ‵ (flft κ9 q9) in
    let κ10 = κs.1.1.1.1.1.1.1.1.1.1.0 in let q10 = qs.1.1.1.1.1.1.1.1.1.1.0 in let t10 : Item 𝓤 = ‵ (flft κ10 q10) in
    let κ11 = κs.1.1.1.1.1.1.1.1.1.1.1.0 in let q11 = qs.1.1.1.1.1.1.1.1.1.1.1.0 in let t11 : Item 𝓤 = ‵ (flft κ11 q11) in
    let Post = (walk_of 𝓛 T hs cl).post z in let Run = λ (ws : List Val). WpFn 𝓤 H 𝓣.C 𝓣.Λ fn ws Post in
    let r = a.0 in let m = a.1.1.0 in let b = m.ref_ptr.0 in let o = m.ref_ptr.1 in let γ = m.ghost_name in let MR = Manifest.the_row (param 3 X) in
    let old = m.now in let meaning : MR.Denot → ManifestMeaning X.Denot = held in
    let handed = option_map handed_of a.1.1.1.1.0 in let roots : RootsTold = roots_of q.ARE_FOUND (p.root_for a.1.1.1.0) in let found : MayFind = p.may_find a.1.1.1.0 in let told : Text → Told = p.names_at a.1.1.1.0 in
    let Why : Error.the_row.Denot → Type 0 = IsRefusedBy (meaning old) handed roots found (MayLose q.ARE_FOUND (p.may_refuse_root a.1.1.1.0)) (p.may_refuse a.1.1.1.0) in
    let e0 = shr_Tells (named 0) κ0 (Resolver.the_row (named_lft 12 1 tt κs) (param 0 F) (param 1 S)) r us.0 are.0 in let e2 = mut_Tells (named 2) κ2 MR m us.1.1.0 are.1.1.0 in
    let s1 = single 𝓛 (row_at 1 Rs) Global-laws.the_row_laws a.1.0 us.1.0 are.1.0 in let s3 = single 𝓛 (row_at 3 Rs) (param_laws 5 P LP) a.1.1.1.0 us.1.1.1.0 are.1.1.1.0 in
    let HandedRows : List RattleType = (shr_ref_field (named_lft 12 3 tt κs) (Manifest.the_row (param 4 N)) tt).row ∷ (str-field (named_lft 12 4 tt κs)).row ∷ [] in
    let LW = option_laws (Tuple HandedRows) (laws_at (tuple_name 2) HandedRows
    (ref_laws (named_lft 12 3 tt κs) (Manifest.the_row (param 4 N)) tt (Manifest-laws.the_row_laws (param 4 N) (param_laws 4 N LN)).shr_laws, (str_laws (named_lft 12 4 tt κs), tt))) in
    let EndRows : List RattleType = (shr_ref_field (named_lft 12 2 tt κs) MR tt).row ∷ Features.the_row (named_lft 12 2 tt κs) (named_lft 12 2 tt κs) (param 1 S) (param 2 I) b' h ∷ [] in
    let LE = result_laws (Tuple EndRows) Error.the_row (laws_at (tuple_name 2) EndRows (
      ref_laws (named_lft 12 2 tt κs) MR tt (Manifest-laws.the_row_laws (param 3 X) (param_laws 3 X LX)).shr_laws,
      (Features-laws.the_row_laws (named_lft 12 2 tt κs) (named_lft 12 2 tt κs) (param 1 S) (param 2 I) b' h (param_laws 1 S LS) (param_laws 2 I LI), tt),
    )) Error-laws.the_row_laws in
    let s4 = single 𝓛 (row_at 4 Rs) LW a.1.1.1.1.0 us.1.1.1.1.0 are.1.1.1.1.0 in
    let v0 = vptr r.ref_ptr.0 r.ref_ptr.1 in let v2 = vptr b o in let Filter : Type 0 = HasNameFilter f (filter_of r.now) in
    qed 𝓛 (((t0 ⊛ t1 ⊛ t2 ⊛ t3 ⊛ t4 ⊛ t5 ⊛ t6 ⊛ t7 ⊛ t8 ⊛ t9 ⊛ t10 ⊛ t11 ⊛ ‵ ftrue) ⊛ ‵ (owns Rs a us)) ∷ raw (fact 𝓤 (κ5 ⊑ F.lives)) ∷ raw (fact 𝓤 (κ6 ⊑ S.lives)) ∷ raw (fact 𝓤 (κ7 ⊑ I.lives)) ∷ raw (fact 𝓤 (κ8 ⊑ X.lives)) ∷ raw (fact 𝓤 (κ9 ⊑ N.lives)) ∷ raw (fact 𝓤 (κ10 ⊑ P.lives)) ∷ raw (fact 𝓤 (κ11 ⊑ Q.lives)) ∷ raw (fact 𝓤 Filter) ∷ []) ∵
    move ! (1 ∷ 2 ∷ 3 ∷ 4 ∷ 5 ∷ 6 ∷ 7 ∷ 8 ∷ []) $ heard ! _ (λ inF. heard ! _ (λ inS. heard ! _ (λ inI. heard ! _ (λ inX. heard ! _ (λ inN. heard ! _ (λ inP. heard ! _ (λ inQ. heard ! _ (λ filter. split ! $ move ! (1 ∷ []) $
    fsplit ! $ move ! (1 ∷ []) $ fsplit ! $ move ! (1 ∷ []) $ fsplit ! $ move ! (1 ∷ []) $ fsplit ! $ move ! (1 ∷ []) $ fsplit ! $
    -- [workspace; nothing; fs; manifest; alloc; self; the tokens]
    rewrite ! 0 (λ (ws : List Val). ‵ ((row_at 4 Rs).own_val a.1.1.1.1.0 ws)) s4.is refl $ rewrite ! 2 (λ (ws : List Val). ‵ ((row_at 3 Rs).own_val a.1.1.1.0 ws)) s3.is refl $
    rewrite ! 3 (λ (ws : List Val). ‵ ((row_at 2 Rs).own_val m ws)) e2 refl $ rewrite ! 4 (λ (ws : List Val). ‵ ((row_at 1 Rs).own_val a.1.0 ws)) s1.is refl $ rewrite ! 5 (λ (ws : List Val). ‵ ((row_at 0 Rs).own_val r ws)) e0 refl $
    suffices ! (Run (v0 ∷ s1.word ∷ v2 ∷ s3.word ∷ s4.word ∷ []))
    (subst (λ (us' : List Val). ent 𝓤 (Run (v0 ∷ s1.word ∷ v2 ∷ s3.word ∷ s4.word ∷ [])) (Run us')) (sym (λ i. e0 i ++ (s1.is i ++ (e2 i ++ (s3.is i ++ (s4.is i ++ []))))))
    (id⊢ 𝓤 (Run (v0 ∷ s1.word ∷ v2 ∷ s3.word ∷ s4.word ∷ [])))) $
    keep ! (3 ∷ 5 ∷ 4 ∷ 2 ∷ 0 ∷ 6 ∷ []) $ move ! (5 ∷ []) $
    split ! $ move ! (1 ∷ []) $ split ! $ move ! (1 ∷ []) $ split ! $ move ! (1 ∷ []) $ split ! $ move ! (1 ∷ []) $ split ! $ move ! (1 ∷ []) $ split ! $ move ! (1 ∷ []) $ split ! $ move ! (1 ∷ []) $
    split ! $ move ! (1 ∷ []) $ split ! $ move ! (1 ∷ []) $ split ! $ move ! (1 ∷ []) $ split ! $ move ! (1 ∷ []) $ split ! $ keep ! (12 ∷ 11 ∷ 10 ∷ 9 ∷ 8 ∷ 7 ∷ 6 ∷ 5 ∷ 4 ∷ 3 ∷ 2 ∷ 0 ∷ 13 ∷ 14 ∷ 15 ∷ 16 ∷ 17 ∷ []) $
    let AllocRow = row_at 1 Rs in owned ! AllocRow (Is AllocRow) (global_makes 𝓛) a.1.0 (s1.word ∷ []) (subst (λ ws. Is AllocRow a.1.0 ws) s1.is are.1.0) $ move ! (13 ∷ 14 ∷ 15 ∷ 0 ∷ 16 ∷ 17 ∷ []) $
    -- [manifest; self; alloc; alloc; fs; workspace; the tokens]
    enter ! 𝓣.C 𝓣.Λ fn (v0 ∷ s1.word ∷ v2 ∷ s3.word ∷ s4.word ∷ []) Post $ alloc_all ! (λ l. pass_all ! refl ((tt, tt), (s1.typed, ((tt, tt), (s3.typed, (s4.typed, tt))))) $
    sets ! (addr ! (through ! refl (stop !))) refl (tt, tt) $ sets ! (of_opd ! (get ! refl)) refl s3.typed $ sets ! (of_opd ! (get ! refl)) refl (wt_as (layout (row_at 4 Rs)) (local_at 9 fn.locals) refl s4.word s4.typed) $
    -- the manifest is lent again, for a lifetime within that of its metadata
    lft_new ! tt (λ n. let α = n ∷ κ8 in let s = (common full_share (Share.left q8)).0 in move ! (15 ∷ []) $ use1 𝓛 (‵ (flft κ8 (Share.left q8)) ⊛ ‵ (flft κ8 (Share.right q8))) (𝓛.lfts.lft_split κ8 q8) $ split ! $
    let Back = raw (wand 𝓤 (A.lft α s) (sep 𝓤 (A.lft (n ∷ []) full_share) (A.lft κ8 (Share.left q8)))) in move ! (2 ∷ 0 ∷ []) $ use2 𝓛 (‵ (flft α s) ⊛ Back) (lft-common 𝓛 (n ∷ []) κ8 full_share (Share.left q8)) $ split ! $ move ! (3 ∷ 11 ∷ []) $
    let Ref : Lft → ℕ → MR.Denot → Item 𝓤 = λ κ δ x. ‵ ((MutRef (named 0) κ MR).own_val (record { ref_ptr = (b, o); ghost_name = δ; now = x }) (v2 ∷ [])) in
    use2 𝓛 (later (some (λ (δ : ℕ). Ref α δ m.now ⊛ ‵ (LentAgain MR κ2 α q2 γ b o δ m.now)))) (lends_again 𝓛 MR (named 2) κ2 α q2 γ b o (named 0) m.now) $ await ! tt $ pick ! (λ δ. split ! $
    -- [the loan; what the lender keeps; the token of α; the way back; the half of 8; self; alloc; alloc; fs; workspace; the other tokens]
    let G1 = triple_of 𝓛 (complete_from.signature X N P Q) (complete_from.spec X N P Q drX p dp q dq drP 𝓛 𝓜.mem 𝓡.returns) in let E1 = complete_from.ended X N P Q drX p dp q dq drP in
    let z1 : G1.Ghost = (
      (
        (α, (κ3, (κ4, (κ8, (κ9, (κ10, (κ11, tt))))))),
        (s, (q3, (q4, (Share.right q8, (q9, (q10, (q11, tt))))))),
        (meet_⊑_right (n ∷ []) κ8, (le.1.1.1.1.1.0, tt)),
        (record { ref_ptr = (b, o); ghost_name = δ; now = m.now }, (a.1.0, (a.1.1.1.0, (a.1.1.1.1.0, tt)))),
        (v2 ∷ [], (s1.word ∷ [], (s3.word ∷ [], (s4.word ∷ [], tt)))),
      ),
      tt,
    ) in
    nothing ! $ use0 𝓛 (raw (fact 𝓤 (κ11 ⊑ Q.lives))) (fact_i 𝓤 (κ11 ⊑ Q.lives) (emp 𝓤) inQ) $ join ! $ use0 𝓛 (raw (fact 𝓤 (κ10 ⊑ P.lives))) (fact_i 𝓤 (κ10 ⊑ P.lives) (emp 𝓤) inP) $ join ! $
    use0 𝓛 (raw (fact 𝓤 (κ9 ⊑ N.lives))) (fact_i 𝓤 (κ9 ⊑ N.lives) (emp 𝓤) inN) $ join ! $ use0 𝓛 (raw (fact 𝓤 (κ8 ⊑ X.lives))) (fact_i 𝓤 (κ8 ⊑ X.lives) (emp 𝓤) inX) $ join ! $
    nothing ! $ move ! (11 ∷ 0 ∷ []) $ join ! $ move ! (10 ∷ 0 ∷ []) $ join ! $ move ! (8 ∷ 0 ∷ []) $ join ! $ move ! (2 ∷ 0 ∷ []) $ join ! $
    nothing ! $ move ! (18 ∷ 0 ∷ []) $ join ! $ move ! (17 ∷ 0 ∷ []) $ join ! $ move ! (16 ∷ 0 ∷ []) $ join ! $ move ! (6 ∷ 0 ∷ []) $ join ! $ move ! (11 ∷ 0 ∷ []) $ join ! $ move ! (10 ∷ 0 ∷ []) $ join ! $ move ! (4 ∷ 0 ∷ []) $ join ! $ join ! $ join ! $
    use1 𝓛 (raw (G1.pre z1)) (id⊢ 𝓤 _) $
    -- [what the call asks; what the lender keeps; the way back; self; alloc; the tokens of 0, 1, 5, 6 and 7]
    calls_at ! (framed 𝓤 H 𝓜 𝓣) G1 (complete_from-met.met 𝓤 𝓛 𝓜 𝓡 (code.calls-cargo_toml_manifest::manifest::Manifest::complete_from_abstract_filesystem 𝓡.env wired) X N P Q LX LN LP LQ drX p dp q dq drP gX mP mQ gP) z1
    (and_then ! (get ! refl) (and_then ! (get ! refl) (and_then ! (get ! refl) (and_then ! (get ! refl) (no_more !))))) (λ v6.
    let Done = Result.the_row unit Error.the_row in let LD = result_laws unit Error.the_row (of_field unit-field unit-laws refl (copy_shared unit-field unit-copy)) Error-laws.the_row_laws in
    use1 𝓛 (later (some (λ (d : Done.Denot). ((‵ (flft α s) ⊛ t3 ⊛ t4 ⊛ ‵ (flft κ8 (Share.right q8)) ⊛ t9 ⊛ t10 ⊛ t11 ⊛ ‵ ftrue) ⊛ ‵ (Done.own_val d (v6 ∷ []))) ⊛ some (λ (ws : Lasts E1 z1.0.0 z1.0.3). ‵ (lasts E1 z1.0.0 z1.0.3 ws) ⊛
    raw (fact 𝓤 (Meets (λ (_ : Unit {0}). meaning ws.0) (complete (meaning old) handed roots told) d)) ⊛ raw (fact 𝓤 (OnErr d (ws.0 ≡ old))) ⊛
    raw (fact 𝓤 (OnOk d (IsCompleted old handed roots found told ws.0))) ⊛ raw (fact 𝓤 (IfErr d Why)))))) (id⊢ 𝓤 _) $
    await ! tt $ pick ! (λ d. split ! $ split ! $ move ! (2 ∷ []) $ pick ! (λ ws. let new = ws.0 in split ! $ move ! (1 ∷ []) $
    split ! $ heard ! _ (λ outcome. split ! $ heard ! _ (λ unchanged. split ! $ heard ! _ (λ completed. heard ! _ (λ wrapped.
    let done : Completing old new handed roots found told Why d = record { outcome = outcome; unchanged = unchanged; completed = completed; wrapped = wrapped } in
    -- [the last values; the tokens; the answer; what the lender keeps; the way back; self; alloc; the tokens of 0, 1, 5, 6 and 7]
    fsplit ! $ fsplit ! $ move ! (1 ∷ 2 ∷ []) $ drop ! $ drop ! $ move ! (1 ∷ []) $
    split ! $ move ! (1 ∷ []) $ split ! $ move ! (1 ∷ []) $ split ! $ move ! (1 ∷ []) $ split ! $ move ! (1 ∷ []) $ split ! $ move ! (1 ∷ []) $ split ! $ move ! (1 ∷ []) $ split ! $ move ! (1 ∷ []) $ drop ! $
    -- [the tokens of 11, 10, 9, half of 8, 4, 3 and α; the loan's last value; the answer; what the lender keeps; the way back; ..]
    move ! (6 ∷ 10 ∷ []) $ use2 𝓛 (‵ (flft (n ∷ []) full_share) ⊛ ‵ (flft κ8 (Share.left q8))) (apply∗ 𝓤 (A.lft α s) (sep 𝓤 (A.lft (n ∷ []) full_share) (A.lft κ8 (Share.left q8)))) $ split ! $
    lft_end ! tt $ use1 𝓛 (‵ (fdead α)) (𝓛.lfts.dead-incl α (n ∷ []) (meet_⊑_left (n ∷ []) κ8)) $ move ! (0 ∷ 10 ∷ 8 ∷ []) $
    use3 𝓛 (later (Ref κ2 γ new ⊛ ‵ (flft κ2 q2))) (comes_back 𝓛 MR (named 0) κ2 α q2 γ b o δ m.now new) $ await ! tt $ split ! $ move ! (2 ∷ 6 ∷ []) $ use2 𝓛 t8 (𝓛.lfts.lft_join κ8 q8) $
    move ! (8 ∷ []) $ peeks ! Done (Is Done) (shows 𝓛 Done) d (v6 ∷ []) (λ isD. let gD = ((LD.lawful 𝓛).typed d (v6 ∷ []) isD).0 in
    lands_as ! refl refl gD $ sets ! (addr ! (through ! refl (stop !))) refl (tt, tt) $
    -- [the answer; the token of 8; the manifest; the tokens of 2, 11, 10, 9, 4 and 3; self; alloc; the tokens of 0, 1, 5, 6 and 7]
    let E2 = shared.ended X in let G2 = triple_of 𝓛 (shared.signature X) (shared.spec X 𝓛 𝓜.mem 𝓡.returns) in let Shr = ShrRef (named 0) κ2 MR in
    let z2 : G2.Ghost = (((κ2, (κ8, tt)), (q2, (q8, tt)), (le.1.1.1.1.0, tt), (record { ref_ptr = (b, o); ghost_name = γ; now = new }, tt), (v2 ∷ [], tt)), tt) in
    nothing ! $ use0 𝓛 (raw (fact 𝓤 (κ8 ⊑ X.lives))) (fact_i 𝓤 (κ8 ⊑ X.lives) (emp 𝓤) inX) $ join ! $ nothing ! $ move ! (4 ∷ 0 ∷ []) $ join ! $ nothing ! $ move ! (4 ∷ 0 ∷ []) $ join ! $ move ! (4 ∷ 0 ∷ []) $ join ! $ join ! $ join ! $
    use1 𝓛 (raw (G2.pre z2)) (id⊢ 𝓤 _) $
    calls_at ! (framed 𝓤 H 𝓜 𝓣) G2 (shared-met.met 𝓤 𝓛 𝓜 𝓡 (code.calls-cargo_toml_resolver::complete_and_parse::shared 𝓡.env wired) X LX) z2 (and_then ! (get ! refl) (no_more !)) (λ v10.
    use1 𝓛 (later (some (λ (l : Bor MR.Denot). ((t2 ⊛ t8 ⊛ ‵ ftrue) ⊛ ‵ (Shr.own_val l (v10 ∷ []))) ⊛ some (λ (ws' : Lasts E2 z2.0.0 z2.0.3). ‵ (lasts E2 z2.0.0 z2.0.3 ws') ⊛
    ‵ (IsLentAs (param 0 X) z2.0.3.0 l) ⊛ raw (fact 𝓤 (l.now ≡ new)))))) (id⊢ 𝓤 _) $
    await ! tt $ pick ! (λ l. split ! $ split ! $ move ! (2 ∷ []) $ pick ! (λ ws'. split ! $ drop ! $ split ! $ move ! (1 ∷ []) $ heard ! _ (λ same.
    move ! (1 ∷ []) $ split ! $ move ! (1 ∷ []) $ split ! $ move ! (1 ∷ []) $ drop ! $ move ! (3 ∷ []) $
    peeks ! Shr (Is Shr) (shows 𝓛 Shr) l (v10 ∷ []) (λ isL. let e10 = shr_Tells (named 0) κ2 MR l (v10 ∷ []) isL in rewrite ! 0 (λ (vs : List Val). ‵ (Shr.own_val l vs)) e10 refl $
    lands_as ! (ap only e10) refl (tt, tt) $ sets ! (of_opd ! (get ! refl)) refl gD $
    -- [what is lent; the tokens of 8 and 2; what is left; the answer; the tokens of 11, 10, 9, 4 and 3; self; alloc; the tokens of 0, 1, 5, 6 and 7]
    let E3 = resolved.ended F S I X f df dfm dfo b' db h dh c dc drF drS drI in let G3 = triple_of 𝓛 (resolved.signature F S I X f df dfm dfo b' db h dh c dc drF drS drI) (resolved.spec F S I X f df dfm dfo b' db h dh c dc drF drS drI 𝓛 𝓜.mem 𝓡.returns) in
    let z3 : G3.Ghost = (
      (
        (κ0, (κ1, (κ2, (κ5, (κ6, (κ7, (κ8, tt))))))),
        (q0, (q1, (q2, (q5, (q6, (q7, (q8, tt))))))),
        (le.0, (le.1.0, (le.1.1.0, (le.1.1.1.0, (le.1.1.1.1.0, tt))))),
        (r, (l, (d, (a.1.0, tt)))),
        (v0 ∷ [], (shr_vals l, (v6 ∷ [], (s1.word ∷ [], tt)))),
      ),
      tt,
    ) in
    use0 𝓛 (raw (fact 𝓤 Filter)) (fact_i 𝓤 Filter (emp 𝓤) filter) $ use0 𝓛 (raw (fact 𝓤 (κ8 ⊑ X.lives))) (fact_i 𝓤 (κ8 ⊑ X.lives) (emp 𝓤) inX) $ join ! $ use0 𝓛 (raw (fact 𝓤 (κ7 ⊑ I.lives))) (fact_i 𝓤 (κ7 ⊑ I.lives) (emp 𝓤) inI) $ join ! $
    use0 𝓛 (raw (fact 𝓤 (κ6 ⊑ S.lives))) (fact_i 𝓤 (κ6 ⊑ S.lives) (emp 𝓤) inS) $ join ! $ use0 𝓛 (raw (fact 𝓤 (κ5 ⊑ F.lives))) (fact_i 𝓤 (κ5 ⊑ F.lives) (emp 𝓤) inF) $ join ! $
    nothing ! $ move ! (13 ∷ 0 ∷ []) $ join ! $ move ! (6 ∷ 0 ∷ []) $ join ! $ move ! (2 ∷ 0 ∷ []) $ join ! $ move ! (10 ∷ 0 ∷ []) $ join ! $
    nothing ! $ move ! (3 ∷ 0 ∷ []) $ join ! $ move ! (14 ∷ 0 ∷ []) $ join ! $ move ! (13 ∷ 0 ∷ []) $ join ! $ move ! (12 ∷ 0 ∷ []) $ join ! $ move ! (3 ∷ 0 ∷ []) $ join ! $ move ! (10 ∷ 0 ∷ []) $ join ! $ move ! (9 ∷ 0 ∷ []) $ join ! $ join ! $ join ! $
    use1 𝓛 (raw (G3.pre z3)) (id⊢ 𝓤 _) $
    calls_at ! (framed 𝓤 H 𝓜 𝓣) G3 (resolved-met.met 𝓤 𝓛 𝓜 𝓡 (code.calls-cargo_toml_resolver::resolving::Resolver::resolved 𝓡.env wired) F S I X LF LS LI LX f df dfm dfo b' db h dh c dc drF drS drI mF mFm mFo mB mH mC gF gS gI) z3
    (and_then ! (get ! refl) (and_then ! (get ! refl) (and_then ! (get ! refl) (and_then ! (get ! refl) (no_more !))))) (λ v.
    let End = type_at T.signature.result κs in
    let Resolved : End.Denot → Type 0 = λ y. IfOk y (λ w. IsResolvedFor (limit_of r.now) (held w.0.now) f (filter_of r.now) w.1) in
    use1 𝓛 (later (some (λ (y : End.Denot). ((t0 ⊛ t1 ⊛ t2 ⊛ t5 ⊛ t6 ⊛ t7 ⊛ t8 ⊛ ‵ ftrue) ⊛ ‵ (End.own_val y (v ∷ []))) ⊛ some (λ (ws' : Lasts E3 z3.0.0 z3.0.3). ‵ (lasts E3 z3.0.0 z3.0.3 ws') ⊛
    raw (fact 𝓤 (IfErr d (λ e. y ≡ Err e))) ⊛ raw (fact 𝓤 (OnOk d (IfErr y (λ e. e ≡ Memory)))) ⊛ raw (fact 𝓤 (IfOk y (λ w. w.0 ≡ l))) ⊛ raw (fact 𝓤 (Resolved y)))))) (id⊢ 𝓤 _) $
    await ! tt $ pick ! (λ y. split ! $ split ! $ move ! (2 ∷ []) $ pick ! (λ ws'. split ! $ drop ! $
    split ! $ heard ! _ (λ refused. split ! $ heard ! _ (λ memory. split ! $ heard ! _ (λ lent. heard ! _ (λ features.
    -- [the tokens of the call; the answer; what is left; the tokens of 11, 10, 9, 4 and 3]
    move ! (1 ∷ []) $ peeks ! End (Is End) (shows 𝓛 End) y (v ∷ []) (λ isY. lands_as ! refl refl ((LE.lawful 𝓛).typed y (v ∷ []) isY).0 $ returns ! (look_at ! 0 refl) $ free_all ! refl $
    let after : Answering new d l y = record { same = same; refused = refused; memory = memory; lent = lent } in
    move ! (2 ∷ []) $ use1 𝓛 (‵ (IsLentAfter (param 3 X) m handed roots found told y)) (rests_so 𝓛 MR γ (λ left. left ≡ l.now) (IsLeftAfter old handed roots found told y) (left_after old new handed roots found told d l y done after)) $
    use0 𝓛 (raw (fact 𝓤 (Resolved y))) (fact_i 𝓤 _ (emp 𝓤) features) $
    use0 𝓛 (raw (fact 𝓤 (IfErr y Why))) (fact_i 𝓤 _ (emp 𝓤) (wrapped_after old new handed roots found told d l y (λ e memory. inl memory) done after)) $ join ! $
    use0 𝓛 (raw (fact 𝓤 (IfOk y (λ w. IsCompleted old handed roots found told w.0.now)))) (fact_i 𝓤 _ (emp 𝓤) (lent_after (λ x. IsCompleted old handed roots found told x) new d l y done.completed after)) $ join ! $
    use0 𝓛 (raw (fact 𝓤 (Meets (λ w. meaning w.0.now) (complete (meaning old) handed roots told) y))) (fact_i 𝓤 _ (emp 𝓤) (outcome_after old new handed roots found told d l y done after)) $ join ! $ move ! (1 ∷ 0 ∷ []) $ join ! $
    nothing ! $ nothing ! $ join ! $ nothing ! $ join ! $ nothing ! $ join ! $ nothing ! $ join ! $ nothing ! $ join ! $ move ! (3 ∷ []) $
    split ! $ move ! (1 ∷ []) $ split ! $ move ! (1 ∷ []) $ split ! $ move ! (1 ∷ []) $ split ! $ move ! (1 ∷ []) $ split ! $ move ! (1 ∷ []) $ split ! $ move ! (1 ∷ []) $ split ! $
    -- [the token of 8; nothing; the tokens of 7, 6, 5, 2, 1 and 0; nothing for the parameters; what is ensured; the answer; the tokens of 11, 10, 9, 4 and 3]
    move ! (11 ∷ 1 ∷ []) $ join ! $ move ! (11 ∷ 0 ∷ []) $ join ! $ move ! (11 ∷ 0 ∷ []) $ join ! $ move ! (1 ∷ 0 ∷ []) $ join ! $ move ! (1 ∷ 0 ∷ []) $ join ! $ move ! (1 ∷ 0 ∷ []) $ join ! $ move ! (1 ∷ 0 ∷ []) $ join ! $ move ! (7 ∷ 0 ∷ []) $ join ! $ move ! (7 ∷ 0 ∷ []) $ join ! $
    move ! (1 ∷ 0 ∷ []) $ join ! $ move ! (1 ∷ 0 ∷ []) $ join ! $ move ! (1 ∷ 0 ∷ []) $ join ! $ move ! (0 ∷ 1 ∷ 3 ∷ 2 ∷ []) $
    by ! (leaves 𝓛 T hs cl z v y (tt, (tt, (tt, (tt, (tt, tt))))) (tt, (tt, (tt, (tt, (tt, tt)))))))))))))))))))))))))))))))))))))))
