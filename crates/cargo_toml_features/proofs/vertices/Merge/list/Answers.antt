use Rattle.cargo_toml_features.proofs.Cited.{ap, bytes_eq, detail_in, is_one_of, left_keys, length, lookup, map, Merged, refl, string_bytes, subst, sym, taken_keys, vertex_at, ◌+◌, ◌∙◌}
use Rattle.cargo_toml_features.proofs.Merging.{listing_vertex, none_stand, put_below, put_merged}
use Rattle.cargo_toml_features.proofs.vertices.Merge.list.Goals as goal

pub returns-clause-below : goal.returns-clause-below
returns-clause-below c =
    put_below _ _ _ c.args.listing.now.name.now c.in_ok-push.ensures.items refl c.args.self.now.all.items
    (rw c.skip.ensures.all c.in_ok-imply.ensures.below)

pub returns-clause-merged : goal.returns-clause-merged
returns-clause-merged c = λ all told stand h.
    let l = c.args.listing.now in
    let ts = map string_bytes l.actions.now in
    let mid = c.imply.new.self in
    record {
      at = put_merged _ _ _ l.name.now c.in_ok-push.ensures.items refl (left_keys c.skip.new.self) c.skip.ensures.in_order all told (ts, detail_in l.detail) (taken_keys mid) (taken_keys c.skip.new.self) c.skip.ensures.taken
          (listing_vertex all l c.args.self.now.start _ refl refl (c.skip.ensures.rest.start ∙ c.in_ok-imply.ensures.rest.start) (ap (λ s. s + length l.actions.now) (c.skip.ensures.rest.start ∙ c.in_ok-imply.ensures.rest.start)) refl stand)
          (λ f. subst (λ v. Merged all (lookup (bytes_eq f) told) (is_one_of (taken_keys mid) f) f (vertex_at v.items f)) (sym c.skip.ensures.all) ((c.in_ok-imply.ensures.merged all told (none_stand all c.args.self.now.start ts stand) h).at f));
    }
