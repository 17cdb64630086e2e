-- The names that proofs of this crate cite of definitions and of other libraries. Declares nothing.
pub use Rattle.cargo_toml_features.specs.Entries.{built_entries, dev_entries, first_entries}
pub use Rattle.cargo_toml_features.specs.FullGraph.{IsRecordOf, IsSaidOf, Required, RequiredAll, counts_alone, counts_at, has_redundant, is_mentioned_in, is_offered, is_offered_alone, is_optional_at, recorded_after, recorded_at, recorded_next, recorded_nowhere, recorded_with}
pub use Rattle.cargo_toml_features.specs.InOrder.{AreInOrder, AreUnremoved, HaveNoEnablers, feature_at, names_of}
pub use Rattle.cargo_toml_features.specs.Marks.{FeatureMarks, NamedDetails, detail_in, detail_listed, detail_named, details_listed, marked, marks_in, marks_of, named_details}
pub use Rattle.cargo_toml_features.specs.Reached.{AreEnabled, ComeFrom, Found, HaveNoEmpty, IsHeldBy, IsKeyed, Lists, pairs_at}
pub use Rattle.cargo_toml_features.specs.Made.{AreMadeOf, HasSpanWithin, IsMadeOf, IsTold, joined_from, own_action, thinned}
pub use Rattle.cargo_toml_features.specs.Said.{StandAt, acts_on, reserves, said_by, texts_in}
pub use Rattle.cargo_toml_features.specs.Vertices.{AreVertices, IsMerged, IsMergedInOrder, IsSameMerge, IsVertex, Merged, Told, default_before, left_keys, listing_names, taken_keys, told_names, told_of, vertex_at, vertex_names}
pub use Rattle.cargo_toml_features.specs.Recorded.{Entry, RecordedKey, Target, counting, entries_at, first_target, is_mentioned, is_redundant, is_reserved, recorded_of, target_cmp, without_redundant}
pub use Rattle.cargo_toml_features.specs.Resolved.{Answer, IsAnswer, IsAnswerWithout, SameRecorded, plain_action, table_of}
pub use Rattle.cargo_toml_features.specs.Slots.{HaveSameNames, HeldHaveTargets, Relates, held_among, held_in, names_in}
pub use Rattle.cargo_toml_features.specs.Views.{action_at, action_of, entry_of, listed_in, listed_of, recorded_in, resolution_of, set_has, table_in, target_in, value_at}
pub use Rattle.cargo_toml_features.specs.Visits.{AddsActions, AddsPair, AreHeld, PushesNamed, PutsFound, is_pending, still, unconditional}
pub use Rattle.cargo_toml_graph.proofs.BinLists.{among-either, among-first, among-second, among-true, is_among-true, once-push}
pub use Rattle.cargo_toml_graph.proofs.Cut.{Ascends, admitted_ascends, cut, cut_is_admitted}
pub use Rattle.cargo_toml_graph.proofs.SortedTexts.{first_below, less_from, none_ascend, others_ascend, put_first, texts_ascend}
pub use Rattle.cargo_toml_graph.proofs.Texts.{by_true, bytes_eq_refl, bytes_eq_sym}
pub use Rattle.cargo_toml_graph.specs.Action.{Action, Item, Text, item_of, join, join_option}
pub use Rattle.cargo_toml_graph.specs.Admitted.{Listed, action_on, admitted, is_below, is_explicit, item_names, items, joined_action}
pub use Rattle.cargo_toml_graph.specs.Graph.{Edge, IsResolved, Table}
pub use Rattle.cargo_toml_graph.specs.Reach.{Among, Gathers, IsOnce}
pub use Rattle.cargo_toml_package.specs.Dependencies.{DependencyMeaning, dependency_meaning, is_optional}
pub use Rattle.cargo_toml_package.specs.Details.{Detail, detail_of, plain_detail}
pub use Rattle.std.proofs.Common.{Bool, Bor, Err, Greater, IfOk, IfSome, IsFalse, IsSome, IsTrue, List, MatchOption, None, Ok, Option, Ordering, Result, Some, String, T, Vec, [], ap, ap₂, arith, below_more, bytes_eq, codes, cond, drop, false, filter, find, fold, get_or, get_or-set_other, get_or-set_same, inl, inr, is_some, length}
pub use Rattle.std.proofs.Common.{length-append, lit<, map, nat_eq, not, option_map, refl, replicate, rules, set, slice_get, slice_index_or, string_bytes, subst, suc, sym, take, take_all, tests, true, unwrap_or, zero, ℕ, ◌&&◌, ◌++◌, ◌+◌, ◌-◌, ◌<◌, ◌||◌, ◌↔◌, ◌∙◌, ◌∷◌, ◌≡◌, ◌≤◌, ◌⊎◌}
pub use Rattle.std.proofs.Math.Bool.{and-or_distrib_right, or-false, or-true, or_assoc}
pub use Rattle.std.proofs.lemmas.Bool.{and_from, cases_Bool, cases_lt, cases_order, cond-false, cond-true, false_from_ne_true, false≢true, or_cases, or_left, or_right}
pub use Rattle.std.proofs.lemmas.Cmp.{alike_right, eq_by_cmp_equiv, nat_list_cmp_total, nat_list_eq_equiv, on_equiv, on_total, tied_itself, upto}
pub use Rattle.std.proofs.lemmas.List.{append-nil, append_assoc, get_or-map, get_or_default, length-map, length-set, map-append, map-set, map_push, replicate-append-replicate, set-get_or, take-append-drop, take-map, take_more}
pub use Rattle.std.proofs.lemmas.List.Folds.{find-append, list_any-append, list_any_at}
pub use Rattle.std.proofs.lemmas.List.Kept.{Any-dedup, Contains-from_dedup, IsStrictlySortedBy-dedup, IsStrictlySortedBy-filter}
pub use Rattle.std.proofs.lemmas.List.Sorted.{Contains-permutation, IsPermutation-sym, searchable_from_sorted}
pub use Rattle.std.proofs.lemmas.Map.Iter.{hash_map_turn, iter_end, rest_all, rest_more, rest_so_far}
pub use Rattle.std.proofs.lemmas.Map.Keys.{IsDistinct-from_sorted, IsDistinct-tail, sorted_from_all_adjacent}
pub use Rattle.std.proofs.lemmas.Map.Text.{btree_map_updates_str, hash_map_updates_str, is_eq-slice_cmp, text_keys}
pub use Rattle.std.specs.BTreeMap.{BTreeMap, get_by, is_at}
pub use Rattle.std.specs.Cmp.Lexicographic.{on_texts, on_texts_equal, slice_cmp}
pub use Rattle.std.specs.FinMap.Entries.{below_all, is_sorted, same_entries}
pub use Rattle.std.specs.List.{AllByRecursion, AllWithin, Contains, FoldsTo, HoldsAt, IsAllAdjacentAnswer, IsDistinct, dedup, ends_with, flat_map, list_any, position_or_len}
pub use Rattle.std.specs.List.Sorted.{IsBinarySearchResult, IsPartitionPoint, IsPartitionedBy, IsPermutation, IsSearchInRange, IsSorted}
pub use Rattle.std.specs.Map.{keys_of, lookup, values_of}
pub use Rattle.std.specs.Map.Iter.{TakesFirst, deref, deref_pair}
pub use Rattle.std.specs.Option.{option_copied, option_map_or, option_or, option_to_list}
pub use Rattle.std.specs.Ordering.{eq_by_cmp, is_eq, is_gt, is_lt, nat_cmp, on, ordering_reverse}
pub use Rattle.cargo_toml_features.{specs.ActionText.action_in, specs.ActionText.item_in, specs.Agreement.Agree, specs.Agreement.SameTests, specs.Examples.small, specs.FirstTarget.HasTarget, specs.FirstTarget.IsFirst, specs.Hashed.actions_at, specs.Hashed.sorted_actions_at, specs.NonDefault.without_default}
pub use Rattle.cargo_toml_features.{specs.OwnBins.bin_requirement, specs.OwnBins.own_of, specs.Places.nth_text, specs.Searching.has_key, specs.Searching.is_one_of, specs.declared.said.ListItem.ListItem, specs.declared.vertices.Vertex.Vertex, specs.declared.vertices.Merge.Merge, specs.declared.action.ActionText.ActionText, specs.declared.admit.Listing.Listing, specs.declared.features.DepAction.DepAction}
pub use Rattle.cargo_toml_features.{specs.declared.features.Feature.Feature, specs.declared.features.FeatureDependency.FeatureDependency, specs.declared.features.Kind.Kind, specs.declared.features.ParseDependency.ParseDependency, specs.declared.features.TargetKey.TargetKey, specs.declared.record.Mentions.Mentions}
pub use Rattle.cargo_toml_features.{specs.declared.required.Requirement.Requirement, specs.declared.slots.RedundantFeatures.RedundantFeatures, specs.declared.slots.Slots.Slots}
pub use Rattle.cargo_toml_graph.{proofs.JoinLaws.join_option_none, proofs.RedirectsInOrder.below_one_way, proofs.Settled.resolution_settled, proofs.WorkedExamples.enables_two, proofs.WorkedExamples.one, specs.Action.Item.Name, specs.Action.Item.On, specs.Ascending.Ascend, specs.Recursive.ArePairs, specs.Recursive.Enables}
pub use Rattle.cargo_toml_graph.{specs.Recursive.Enables.further, specs.Recursive.Enables.itself, specs.Removal.is_removed}
pub use Rattle.cargo_toml_package.{specs.InheritedDependencies.Entries, specs.Targets.TargetMeaning, specs.Targets.target_meaning, specs.declared.dependency.Dependency.Dependency, specs.declared.target.FeatureDetail.FeatureDetail}
pub use Rattle.cargo_toml_parts.{specs.Reads.map_meaning}
pub use Rattle.std.{proofs.lemmas.Fn.always_returns_same, proofs.lemmas.Grind.common_steps, proofs.lemmas.Iterator.IsFirst-from_position, proofs.lemmas.Iterator.YieldsList-from_slice, proofs.lemmas.Iterator.Search.any_from_yields_List}
pub use Rattle.std.{proofs.lemmas.List.Elements.filter-append, proofs.lemmas.List.Filters.dedup_is, proofs.lemmas.List.Sums.fold_push, proofs.lemmas.Map.NonePasses, proofs.lemmas.Map.Entries.hash_map_get_place, proofs.lemmas.Map.Entries.none_past_head}
pub use Rattle.std.{proofs.lemmas.Map.Lookups.exact_bytes, proofs.lemmas.Map.Made.is_some-lookup, proofs.lemmas.Option.same_Some, proofs.lemmas.Result.IfOk-weaker, proofs.lemmas.Slice.Eq.bytes_eq-Decides, proofs.lemmas.Str.Pattern.ends_text, proofs.lemmas.Str.Pattern.split_once_first, specs.BTreeSet.BTreeSet}
pub use Rattle.std.{specs.Cmp.IsTotalOrder, specs.Fn.CalledAt, specs.HashMap.HashMap, specs.HashMap.IsUnique, specs.HashMap.Entry.map_with_value, specs.Iterator.YieldsFirst, specs.Iterator.YieldsThen, specs.List.Retain.DiffersFromLast, specs.List.Retain.IsFiltered, specs.Result.result_ok}
pub use Rattle.std.{specs.String.string_cmp, specs.declared.alloc.Global.Global, specs.declared.cmp.Ordering.TheVariants.Equal, specs.declared.cmp.Ordering.TheVariants.Less}
pub use denote.Param.{Members.Mut}
unfoldable pub use Rattle.std.specs.List.Sorted.{IsStrictlySortedBy}
