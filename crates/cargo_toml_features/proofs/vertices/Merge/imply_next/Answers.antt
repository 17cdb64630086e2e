use Rattle.cargo_toml_features.proofs.Cited.{Merged, None, Vertex, false, get_or, get_or_default, is_one_of, lookup, bytes_eq, map, refl, subst, sym, take, vertex_at, ◌+◌}
use Rattle.std.proofs.Common.{add-zero}
use Rattle.cargo_toml_features.proofs.{Merging.next_merged, Merging.no_text}
use Rattle.cargo_toml_features.proofs.vertices.Merge.imply_next.Goals as goal

pub returns-clause-merged : goal.returns-clause-merged
returns-clause-merged c = λ all told stand h.
    let old = c.args.self.now in
    let ks = old.keys.now in
    let k = get_or ks old.next no_text in
    let v : Vertex = record { name = k; items = record { start = old.start; end = old.start }; detail = None; is_listed = false } in
    record {
      at = λ f. subst (λ vs. Merged all (lookup (bytes_eq f) told) (is_one_of (map (λ t. t.now) (take (old.next + 1) ks)) f) f (vertex_at vs f)) (sym c.in_ok-push.ensures.items)
          (next_merged old.all.items ks old.next k v c.requires.next (get_or_default ks old.next no_text k c.requires.next) refl c.requires.in_order all told
          (λ g named. record { name = named; is_listed = refl; items = record { stand = stand; ends = sym (add-zero old.start) }; detail = refl }) h.at f);
    }
