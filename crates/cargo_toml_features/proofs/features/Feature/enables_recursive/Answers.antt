use Rattle.std.proofs.Common.{rules, ◌≡◌, ◌++◌, ◌∷◌, [], length, ap, subst, arith, Some, None}
use Rattle.cargo_toml_features.specs.Visits.{still}
use Rattle.cargo_toml_features.proofs.{Pending.key_of, Pending.still_popped, Walks.Walks, Walks.begins, Walks.walks_on, Walks.walks_on_less, Walks.visited, Walks.visited_less, Walks.all_enabled, Walks.all_pairs}
use Rattle.cargo_toml_features.proofs.features.Feature.enables_recursive.Goals as goal

pub loop-next-init : goal.loop-next-init
loop-next-init g c =
    begins c.args.features.now c.args.self.now.key.now c.with_hasher-found.result c.with_hasher-dependencies.result (still c.new-pending.result.items (Some c.held.result)) c.held.result c.with_hasher-found.ensures.empty c.with_hasher-dependencies.ensures.empty
    (ap (λ l. l ++ c.held.result ∷ []) c.new-pending.ensures.items) c.held.ensures (key_of c.args.features.now c.requires.keyed c.args.self.now.key.now c.held.result.now c.held.ensures)

pub loop-next-preserved-then-is_new : goal.loop-next-preserved-then-is_new
loop-next-preserved-then-is_new g c =
    visited c.args.features.now c.args.self.now.key.now c.loop-next.found c.add_found.new.found c.loop-next.dependencies c.add_actions.new.dependencies c.loop-next.pending.items (still c.take_next.new.pending.items c.in_ok-next.next) c.in-Some.feature
    (subst (λ n. Walks c.args.features.now c.args.self.now.key.now c.loop-next.found c.loop-next.dependencies (still c.loop-next.pending.items n)) c.in-Some.is c.loop-next.invariant)
    (search rules) c.in_ok-is_new.ensures.puts c.in_ok-add_actions.ensures.pairs c.in_ok-add_actions.ensures.no_empty c.in_ok-next.ensures

pub loop-next-preserved : goal.loop-next-preserved
loop-next-preserved g c =
    let popped : c.loop-next.pending.items ≡ still c.pop-next.new.self.items c.pop-next.result = still_popped c.loop-next.pending c.pop-next.new.self c.pop-next.result c.pop-next.ensures.items c.pop-next.ensures.cases in
    subst (Walks c.args.features.now c.args.self.now.key.now c.add_found.new.found c.loop-next.dependencies) popped
    (walks_on c.args.features.now c.args.self.now.key.now c.loop-next.found c.add_found.new.found c.loop-next.dependencies c.loop-next.pending.items c.in-Some.feature (subst (λ n. Walks c.args.features.now c.args.self.now.key.now c.loop-next.found c.loop-next.dependencies (still c.loop-next.pending.items n)) c.in-Some.is c.loop-next.invariant) (search rules) c.in_ok-is_new.ensures.puts)

pub loop-next-smaller-then-is_new : goal.loop-next-smaller-then-is_new
loop-next-smaller-then-is_new g c =
    let less =
    visited_less c.args.features.now c.args.self.now.key.now c.loop-next.found c.add_found.new.found c.loop-next.dependencies c.add_actions.new.dependencies c.loop-next.pending.items (still c.take_next.new.pending.items c.in_ok-next.next) c.in-Some.feature
    (subst (λ n. Walks c.args.features.now c.args.self.now.key.now c.loop-next.found c.loop-next.dependencies (still c.loop-next.pending.items n)) c.in-Some.is c.loop-next.invariant) (search rules) c.in_ok-is_new.ensures.puts c.in_ok-add_actions.ensures.pairs c.in_ok-add_actions.ensures.no_empty c.in_ok-next.ensures in
    omega (arith, less, ap (λ n. length (still c.loop-next.pending.items n)) c.in-Some.is)

pub loop-next-smaller : goal.loop-next-smaller
loop-next-smaller g c =
    let less =
    walks_on_less c.args.features.now c.args.self.now.key.now c.loop-next.found c.add_found.new.found c.loop-next.dependencies c.loop-next.pending.items c.in-Some.feature (subst (λ n. Walks c.args.features.now c.args.self.now.key.now c.loop-next.found c.loop-next.dependencies (still c.loop-next.pending.items n)) c.in-Some.is c.loop-next.invariant) (search rules) c.in_ok-is_new.ensures.puts in
    let popped : c.loop-next.pending.items ≡ still c.pop-next.new.self.items c.pop-next.result = still_popped c.loop-next.pending c.pop-next.new.self c.pop-next.result c.pop-next.ensures.items c.pop-next.ensures.cases in
    omega (arith, less, ap (λ n. length (still c.loop-next.pending.items n)) c.in-Some.is, ap length popped)

pub returns-clause-features : goal.returns-clause-features
returns-clause-features g c =
    let none : c.loop-next.next ≡ None = search rules in
    all_enabled c.args.features.now c.args.self.now.key.now c.loop-next.found c.loop-next.dependencies (subst (λ n. Walks c.args.features.now c.args.self.now.key.now c.loop-next.found c.loop-next.dependencies (still c.loop-next.pending.items n)) none c.loop-next.invariant)

pub returns-clause-dependencies : goal.returns-clause-dependencies
returns-clause-dependencies g c =
    let none : c.loop-next.next ≡ None = search rules in
    all_pairs c.args.features.now c.args.self.now.key.now c.loop-next.found c.loop-next.dependencies (subst (λ n. Walks c.args.features.now c.args.self.now.key.now c.loop-next.found c.loop-next.dependencies (still c.loop-next.pending.items n)) none c.loop-next.invariant)
