-- What a run over its lines comes to, by the part that ends it.
use Rattle.std.proofs.Common.{◌≡◌, ℕ, List, [], Option, None, Some, Ok, Err, refl, sym, subst, append-nil}
use Rattle.std.specs.Io.KnownBytes.{Appends}
use Rattle.hir_show_io.specs.Text.{lines}
use Rattle.hir_show_io.specs.LineState.{LineState}
use Rattle.hir_show_grammar.specs.Line.{any_question}
use Rattle.hir_show_grammar.specs.declared.question.Question.{Question}
use Rattle.hir_store_core.specs.Contents.{Contents}
use Rattle.hir_body.specs.Bodies.{BodyContents, body_of}
use Rattle.hir_show_run.specs.declared.fault.RunFault.{RunFault}
use Rattle.hir_show_run.specs.declared.fault.RunFault.TheVariants.{OutOfMemory}
use Rattle.hir_show_run.specs.Answer.{NamedBody, IsStoreAnswer}
use Rattle.hir_show_run.specs.internal.Answer.{IsAnswerOf}
use Rattle.hir_show_run.specs.internal.Output.{Output, Wrote}
use Rattle.hir_show_run.specs.Parts.{Parts, body_parts}
use Rattle.hir_show_run.specs.internal.RunStates.{RunState}
use Rattle.hir_show_run.specs.Program.{Outcome, is_of_store, section, stops, after_store, on_body}
use Rattle.hir_show_run.specs.Run.{RunsTo, no_lines}
use Rattle.hir_show_run.specs.internal.Stages.{Builds, Finishes, IsBodyOf, Accepts, Asks, AsksUpTo, RunsUpTo}
use Rattle.hir_show_run.proofs.QuestionLemmas.{StandsAt}
use Rattle.hir_show_run.proofs.SectionLemmas.{section_done, section_ends, section_left}
use Rattle.hir_show_run.proofs.EndingLemmas.{answers-alone, build_ends, built_at, finish_ends, accept_ends, body_ends, store_end, store_bad, stops_end, stops_bad, at_store, at_body, in_body}
use Rattle.hir_show_run.proofs.WritingLemmas.{Wrote-none}

nothing_appended : (known : Option (List ℕ)) → Appends known known []
nothing_appended None = tt
nothing_appended (Some bytes) = sym (append-nil bytes)

-- an allocation fails before any line is read
pub runs_out_first : (known old remaining : Option (List ℕ)) (ls : LineState) → ls ≡ no_lines → RunsTo known old remaining old ls (Err OutOfMemory)
runs_out_first None old remaining ls fresh = tt
runs_out_first (Some input) old remaining ls fresh = rw fresh ([], lines input, refl, refl, [], answers-alone [] refl, nothing_appended old)

-- where the lines that make ended, nothing was written
module _ (start : Output) (p : RunState) (parts : Parts) (still : p.output ≡ start) where
  nothing : Wrote start p.output []
  nothing = subst (λ (o : Output). Wrote start o []) (sym still) (Wrote-none start)

  -- the lines that make end early
  pub script_build : (known : Option (List ℕ)) (fault : RunFault) → Builds known p parts (Err fault) → RunsUpTo known start p (Err fault)
  script_build None fault b = tt
  script_build (Some input) fault b = build_ends input start p parts nothing fault b

  -- what was made is refused
  pub script_finish : (known : Option (List ℕ)) (first : Option Question) (fault : RunFault) → Builds known p parts (Ok first) → Finishes parts.built (Err fault) → RunsUpTo known start p (Err fault)
  script_finish None first fault b f = tt
  script_finish (Some input) first fault b f = finish_ends input start p parts nothing first fault b f

  module _ (store : Contents) (f : Finishes parts.built (Ok store)) where
    -- there is no question
    pub script_accept : (known : Option (List ℕ)) (q : RunState) (outcome : Outcome) → Builds known p parts (Ok None) → Accepts p.output q.output outcome → RunsUpTo known start q outcome
    script_accept None q outcome b a = tt
    script_accept (Some input) q outcome b a = accept_ends input start p parts nothing q outcome b f.1 a

    module _ (question : Question) where
      asked_store : (input : List ℕ) → Builds (Some input) p parts (Ok (Some question)) → StandsAt input p question (section is_of_store (IsStoreAnswer store) (after_store parts)) []
      asked_store input b = rw f.0 (at_store input p question parts f.1 (built_at input start p parts nothing question b))

      -- the questions on the store end early
      pub script_store_ends : (known : Option (List ℕ)) (q : RunState) (fault : RunFault) → Builds known p parts (Ok (Some question)) → Asks is_of_store (IsStoreAnswer store) p q question (Err fault) → RunsUpTo known start q (Err fault)
      script_store_ends None q fault b a = tt
      script_store_ends (Some input) q fault b a =
          section_ends input p question is_of_store (IsStoreAnswer store) (after_store parts) [] (asked_store input b) (store_end parts) (store_bad parts) start q nothing fault a

      -- no question is on the body
      pub script_store_done : (known : Option (List ℕ)) (q : RunState) → Builds known p parts (Ok (Some question)) → AsksUpTo is_of_store (IsStoreAnswer store) p q question None → RunsUpTo known start q (Ok tt)
      script_store_done None q b a = tt
      script_store_done (Some input) q b a =
          section_done input p question is_of_store (IsStoreAnswer store) (after_store parts) [] (asked_store input b) (store_end parts) (store_bad parts) start q nothing a

      module _ (q : RunState) (left : Question) (a : AsksUpTo is_of_store (IsStoreAnswer store) p q question (Some left)) where
        left_store : (input : List ℕ) → Builds (Some input) p parts (Ok (Some question)) → (t : List ℕ) × StandsAt input q left (on_body parts) t × Wrote start q.output t
        left_store input b =
            let stands = section_left input p question is_of_store (IsStoreAnswer store) (after_store parts) [] (asked_store input b) (store_end parts) (store_bad parts) start q nothing left a in
            (stands.0, at_body input q left parts stands.0 stands.1, stands.2)

        -- the body is refused
        pub script_body : (known : Option (List ℕ)) (fault : RunFault) → Builds known p parts (Ok (Some question)) → IsBodyOf (body_of store parts.params parts.self_param) (Err fault) → RunsUpTo known start q (Err fault)
        script_body None fault b m = tt
        script_body (Some input) fault b m =
            let stands = left_store input b in
            body_ends input start q left parts stands.0 fault stands.1 (subst (λ (s : Contents). IsBodyOf (body_of s parts.params parts.self_param) (Err fault)) f.0 m) stands.2

        module _ (named : NamedBody) (body : BodyContents) (m : IsBodyOf (body_of store parts.params parts.self_param) (Ok body)) (is : named ≡ record { body = body; name = parts.name }) where
          whole : IsBodyOf (body_parts parts) (Ok body)
          whole = rw f.0 at m

          asked_body : (input : List ℕ) → Builds (Some input) p parts (Ok (Some question)) → (t : List ℕ) × StandsAt input q left (section any_question (IsAnswerOf named) stops) t × Wrote start q.output t
          asked_body input b =
              let stands = left_store input b in
              rw (is, whole.0) (stands.0, in_body input q left parts stands.0 whole.1 stands.1, stands.2)

          -- the questions on the body end early
          pub script_body_ends : (known : Option (List ℕ)) (r : RunState) (fault : RunFault) → Builds known p parts (Ok (Some question)) → Asks any_question (IsAnswerOf named) q r left (Err fault) → RunsUpTo known start r (Err fault)
          script_body_ends None r fault b d = tt
          script_body_ends (Some input) r fault b d =
              let stands = asked_body input b in
              section_ends input q left any_question (IsAnswerOf named) stops stands.0 stands.1 stops_end stops_bad start r stands.2 fault d

          -- all lines are answered
          pub script_body_done : (known : Option (List ℕ)) (r : RunState) → Builds known p parts (Ok (Some question)) → AsksUpTo any_question (IsAnswerOf named) q r left None → RunsUpTo known start r (Ok tt)
          script_body_done None r b d = tt
          script_body_done (Some input) r b d =
              let stands = asked_body input b in
              section_done input q left any_question (IsAnswerOf named) stops stands.0 stands.1 stops_end stops_bad start r stands.2 d
