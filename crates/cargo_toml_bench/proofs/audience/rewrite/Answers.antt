use Rattle.cargo_toml_bench.proofs.Cited.{Err, Error, IfErr, IfErr-weaker, IfOk-weaker, IsRewrittenOwn, IsWriting, RefusesRewriting, Result, Value, Way, arith, audience_way, err_from_is_err_and, held, inl, inr, manifest_way, view}
use Rattle.std.specs.Prelude.{IfOk}
use Rattle.cargo_toml_bench.proofs.audience.rewrite.Goals as goal

-- What a writer answers.
tree_of : {X : Type 0} (way : Way X) (x : X) (answer : Result Value Error) → IsWriting way x answer → IfOk answer (λ v. way.trees x (view v))
tree_of way x answer tree = grind arith

fault_of_tree : {X : Type 0} (way : Way X) (x : X) (answer : Result Value Error) → IsWriting way x answer → IfErr answer (λ e. IsWriting way x (Err e))
fault_of_tree way x answer tree = grind arith

pub returns-clause-answer : goal.returns-clause-answer
returns-clause-answer c =
    let m = held c.in_ok-manifest.manifest in
    IfOk-weaker c.to_value.result (λ v. (manifest_way audience_way).trees m (view v)) (λ v. IsRewrittenOwn c.args.bytes.now (view v))
    (λ v tree. (m, c.in_ok-manifest.ensures.spelled, tree))
    (tree_of (manifest_way audience_way) m c.to_value.result c.to_value.ensures.written)

pub returns-in_err-manifest-clause-refused : goal.returns-in_err-manifest-clause-refused
returns-in_err-manifest-clause-refused c =
    let p = err_from_is_err_and c.from_residual.result c.from_residual.ensures.1 in
    rw (p.1, p.2) (inl c.in_err-manifest.ensures.refused)

pub returns-clause-refused : goal.returns-clause-refused
returns-clause-refused c =
    let m = held c.in_ok-manifest.manifest in
    IfErr-weaker c.to_value.result _ (RefusesRewriting c.args.bytes.now) (λ e refused. inr (m, c.in_ok-manifest.ensures.spelled, refused))
    (fault_of_tree (manifest_way audience_way) m c.to_value.result c.to_value.ensures.written)
