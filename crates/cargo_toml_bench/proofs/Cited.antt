-- The names that proofs of this crate cite of definitions and of other libraries. Declares nothing.
pub use Rattle.cargo_toml.specs.Dependencies.{DependencyMeaning, dependency_meaning, is_optional}
pub use Rattle.cargo_toml.specs.Filter.{Asked, FilterTells, HasNameFilter}
pub use Rattle.cargo_toml.specs.Graph.{Edge, IsKept, IsResolved, Table}
pub use Rattle.cargo_toml.specs.Lent.{IsLeft, IsResolvedAfter, with_lent}
pub use Rattle.cargo_toml.specs.Manifests.{ManifestMeaning, by_zero_rule, held, is_zero, manifest_meaning, manifest_reads}
pub use Rattle.cargo_toml.specs.Parsed.{AreBinsComplete, IsParsed, IsParsedBy, parsed_entries, parsed_table, requirements}
pub use Rattle.cargo_toml.specs.Reached.{AreEnabled, Found, IsKeyed}
pub use Rattle.cargo_toml.specs.Recorded.{entries_at, first_target, recorded_of}
pub use Rattle.cargo_toml.specs.Reread.{IsTold, SharedIsTold, reread, told}
pub use Rattle.cargo_toml.specs.Views.{answer_of, recorded_in, resolution_of, value_at}
pub use Rattle.cargo_toml_bench.specs.Audiences.{IsRewrittenOwn, RefusesRewriting, audience_way}
pub use Rattle.cargo_toml_bench.specs.Pairs.{HasEnabling, IsFeatureCount, IsHidden}
pub use Rattle.cargo_toml_bench.specs.Removing.{AreNames, AreTakenOut, ChangesAll, ChangesAt, HasNames, HaveRedirects, Loses, Redirected, Redirects, TakesOut, bins_at, is_hidden, key_at}
pub use Rattle.cargo_toml_bench.specs.Reports.{AreUnreferenced, IsUnreferenced, optional_keys, texts}
pub use Rattle.cargo_toml_bench.specs.Versioned.{IsPrinted, IsVersioned, with_version}
pub use Rattle.cargo_toml_features.proofs.Pending.{at_key, elsewhere, key_of}
pub use Rattle.cargo_toml_graph.proofs.InByteOrder.{ascending_once, passed_has, passed_once, removed_there}
pub use Rattle.cargo_toml_graph.proofs.Texts.{apart_false, by_true, bytes_eq_refl, bytes_eq_sym}
pub use Rattle.cargo_toml_graph.specs.Removal.{SameKept, lists_text, pass_bins, unremoved, without_all, without_one}
pub use Rattle.std.proofs.Common.{Bool, Bor, Err, IfOk, IfSome, IsErrAnd, IsSome, IsTrue, List, None, Ok, Option, Result, Some, String, Vec, [], ap, append-nil, ap₂, arith, bytes_eq, codes, cond, false, get_or, inl, inr, is_some, length, map, nat_eq, not, option_map, refl, rules, string_bytes, subst, sym, take, true, ℕ, ◌&&◌, ◌++◌, ◌+◌, ◌<◌, ◌==◌, ◌||◌, ◌↔◌, ◌∙◌, ◌∷◌, ◌≡◌}
pub use Rattle.std.proofs.Math.Bool.{and-false, and-true, and_assoc, or-false, or_assoc}
pub use Rattle.std.proofs.lemmas.Bool.{and_from, and_parts, cases_Bool, cond-false, cond-true, eqb-true, false_from_ne_true, false≢true, not-true, not_from_false, or_left}
pub use Rattle.std.proofs.lemmas.List.{length-map, map_push, nil_from_length, take_more}
pub use Rattle.std.proofs.lemmas.Result.{IfErr-weaker, IfOk-weaker, err_from_is_err_and}
pub use Rattle.std.specs.HashMap.{HashMap, IsUnique, hash_map_len}
pub use Rattle.std.specs.List.{AllByRecursion, list_any, starts_with}
pub use Rattle.std.specs.Option.{IsSomeAnd, option_copied, option_map_or}
pub use Rattle.std.specs.Prelude.{IfErr, IsUtf8, filter}
pub use Rattle.cargo_toml.{specs.Action.Text, specs.Admitted.admitted, specs.Asked.WorkspaceMeets, specs.Choosing.from, specs.Completing.Outcome, specs.Dependency.Dependency, specs.Error.Error, specs.Error.Memory, specs.Feature.Feature, specs.Floats.without_floats, specs.Inheritable.TheVariants.Set, specs.Limits.MAX_ITEMS}
pub use Rattle.cargo_toml.{specs.Manifest.Manifest, specs.OwnBins.own_of, specs.Package.Package, specs.Packages.PackageMeaning, specs.Packages.package_meaning, specs.Reach.Reaches, specs.Reach.Reaches.edge, specs.Removal.is_removed, specs.Resolved.Answer, specs.Resolved.SameRecorded, specs.Sharing.shared_of}
pub use Rattle.cargo_toml.{specs.Texts.any_tree, specs.Texts.document_reads, specs.Told.ReadsRoot, specs.Versions.Parts, specs.Ways.free_way, specs.Writes.IsWriting, specs.Writes.Way, specs.WrittenManifests.manifest_way, specs.WrittenPackages.IsVersionAgain, specs.WrittenPackages.VersionAgain}
pub use Rattle.cargo_toml_bench.{specs.Alike.AreAlike, specs.Alone.is_alone, specs.Alone.is_alone_at, specs.InMemory.told_bytes, specs.InMemory.told_manifest, specs.Printing.lines_with, specs.Printing.report_text, specs.Spelled.Spells}
pub use Rattle.cargo_toml_features.{proofs.Agreement.settled, proofs.NoneRemoved.enables_in, proofs.NoneRemoved.enables_out, specs.Marks.NamedDetails, specs.Recorded.Entry, specs.Resolved.IsAnswer, specs.Resolved.table_of, specs.Slots.Relates, specs.Views.set_has, specs.declared.features.Features.Features}
pub use Rattle.cargo_toml_graph.{proofs.BinLists.among-true, proofs.BinLists.is_among-true, proofs.Edges.unremoved_is, proofs.Elimination.all_taken_out, proofs.Filtered.those_among, proofs.Filtered.those_ascend, proofs.RedirectsInOrder.redirect_by_bytes, proofs.Settled.resolution_settled, proofs.Unremoved.resolved_unremoved}
pub use Rattle.cargo_toml_graph.{specs.Admitted.Listed, specs.Admitted.is_below, specs.Ascending.Ascend, specs.Bins.ArePassedOn, specs.Bins.IsPassed, specs.Graph.Resolution, specs.Reach.Among, specs.Reach.IsOnce, specs.Redirects.RedirectsTo}
pub use Rattle.cargo_toml_package.{specs.Workspaces.workspace_meaning, specs.declared.workspace.Workspace.Workspace}
pub use Rattle.cargo_toml_resolve.{proofs.AgainstAll.resolved_same, proofs.ByFilter.answer_alike, proofs.InOrder.all_taken, proofs.InOrder.taken_in_order, proofs.Sets.removed_text, specs.Texts.texts_now}
pub use Rattle.semver.{specs.Identifiers.parts_of, specs.declared.Version.Version}
pub use Rattle.std.{proofs.lemmas.Bool.Decides.same_from_decides, proofs.lemmas.Iterator.items_from_collect, proofs.lemmas.Iterator.Consumers.YieldsList-from_copied, proofs.lemmas.Iterator.Consumers.YieldsList-from_rest, proofs.lemmas.Map.Made.is_some-lookup, proofs.lemmas.Map.Text.hash_set_updates_text}
pub use Rattle.std.{proofs.lemmas.Map.Text.is_eq-slice_cmp, proofs.lemmas.Option.MatchOption-at_none, proofs.lemmas.Slice.Eq.bytes_eq-Decides, specs.BTreeMap.is_at, specs.BTreeSet.BTreeSet, specs.BTreeSet.btree_set_len, specs.Cmp.Lexicographic.slice_cmp, specs.Ordering.nat_cmp, specs.declared.alloc.Global.Global}
pub use Rattle.toml.{proofs.Views.view-Table, specs.Data.Data, specs.Data.table, specs.Parse.parse_document, specs.View.table_view, specs.View.view, specs.declared.value.Value.Value}
unfoldable pub use Rattle.std.specs.List.{IsDistinct}
