-- Each kind of call, part by part.
use Rattle.std.proofs.Common.{ℕ, List, [], ◌∷◌, ◌++◌, map, vec_items, sym, ap, ◌∙◌, arith}
use Rattle.std.proofs.lemmas.List.{length-map}
use Rattle.std.specs.List.{list_all, flat_map}
use Rattle.std.proofs.lemmas.Result.{on_ok_weaker}
use Rattle.calls.specs.Format.{act_written, many_written, encode_call}
use Rattle.words.specs.Values.{act_of, call_of}
use Rattle.text.proofs.Appends.{two_parts}
use Rattle.encoding.specs.Fits.{act_fits, call_fits}
use Rattle.encoding.proofs.Pushes.{all_written}
use Rattle.encoding.proofs.Tested.{few_are, all_pass}
use Rattle.encoding.proofs.encode.CallEncode.encode.Goals as goal

pub returns-in_ok-extend_from_slice-in-Do : goal.returns-in_ok-extend_from_slice-in-Do
unfolding encode_call
returns-in_ok-extend_from_slice-in-Do c =
    on_ok_weaker c.encode_all.result
    (λ e.
    two_parts (vec_items c.args.out.now) (1 ∷ (c.len.result ∷ [])) (many_written act_written (map act_of (vec_items c.in-Do.acts))) c.in_ok-extend_from_slice-in-Do.ensures.items
    (e ∙ ap (λ (xs : List ℕ). vec_items c.extend_from_slice.new.self ++ xs) (ap (flat_map (λ a. act_written (act_of a))) c.deref.ensures.value ∙ all_written act_of act_written (vec_items c.in-Do.acts)))
    ∙ (ap (λ (n : ℕ). vec_items c.args.out.now ++ (1 ∷ (n ∷ many_written act_written (map act_of (vec_items c.in-Do.acts)))))
    (c.len.ensures ∙ (c.in-Do.acts.ok.0 ∙ sym (length-map (vec_items c.in-Do.acts) act_of)))
    ∙ ap (λ e. vec_items c.args.out.now ++ encode_call (call_of e)) (sym c.in-Do.is)))
    c.encode_all.ensures

pub overflow_cast-len : goal.overflow_cast-len
overflow_cast-len c =
    let few = few_are act_of act_fits (vec_items c.in-Do.acts) c.len.result (c.len.ensures ∙ c.in-Do.acts.ok.0) (ap (λ x. call_fits (call_of x)) (sym c.in-Do.is) ∙ c.requires) in
    omega arith

pub encode_all-requires : goal.encode_all-requires
encode_all-requires c =
    ap (list_all (λ a. act_fits (act_of a))) c.deref.ensures.value ∙ all_pass act_of act_fits (vec_items c.in-Do.acts) (ap (λ x. call_fits (call_of x)) (sym c.in-Do.is) ∙ c.requires)
