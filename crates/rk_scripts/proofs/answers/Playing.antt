-- A script's text is made of pieces, and the replies in them are the clients' receipts at the end.
use Rattle.std.proofs.Common.{arith, ◌≡◌, ℕ, List, [], ◌∷◌, ◌++◌, map, Option, refl, sym, ap, ◌∙◌, ◌⊎◌, inl, ⊎_elim, append-nil}
use Rattle.std.proofs.Common.{append_assoc}
use Rattle.rk_scripts.proofs.Words.{filter-append, Said, NoMemory, Refused, ReplicaFault, Cluster, Occurrence, cluster_run, new_cluster}
use Rattle.rk_scripts.proofs.Words.{runs_join, Fate, Numbered, Effect, Fails, Pauses, Refuses, Stop, Wears, effect_within, Played, Setting}
use Rattle.rk_scripts.proofs.Words.{behind, cluster_by, continued, first_fates, how_many, other_fates, played_in, played_part, refused_at}
use Rattle.rk_scripts.proofs.Words.{stopped_at, Piece, piece_said, piece_text, is_reply_to, replies_to, said_along, told_to, ending}
use Rattle.std.proofs.lemmas.List.Concat.{flat_map-cons}
use Rattle.rk_types.specs.declared.status.Status.{Status}
use Rattle.rk_types.specs.declared.status.Status.TheVariants.{Done, Worn}
use Rattle.rk_scripts.specs.answers.Pieces.{AreAnswers, AreInOrder, IsLast, Refusal, acting_in, pieces_said}
use Rattle.rk_scripts.proofs.answers.Along.{said_joins}
use Rattle.rk_scripts.proofs.answers.Effects.{HasWritten, IsWriting, within_writes}
use Rattle.rk_scripts.proofs.answers.Receipts.{receipts_said}
use Rattle.rk_scripts.proofs.play.Made.{within_from}
use Rattle.rk_scripts.proofs.play.Openings.{opening}

-- a run that is done or refused says all in its text
abbrev EndsWell : Played → Type 0
EndsWell it = (it.status ≡ Done) ⊎ (it.status ≡ Refused)

-- the text of a run is that of some pieces, and what clients said in them is what they said along all that occurred since its start; but
-- for what they said at a command that stopped the run without a refusal, which is silent
record IsSpoken (left : List Numbered) (start : Cluster) (it : Played) : Type 0 where
  pub from : it.cluster ≡ cluster_run start it.occurred
  pub pieces : List Piece
  pub text : it.pieces ≡ map piece_text pieces
  pub silent : List Said
  pub said : said_along start it.occurred ≡ pieces_said pieces ++ silent
  pub all : EndsWell it → silent ≡ []
  pub in_order : AreInOrder pieces left start it.occurred

-- ---- commands in a cluster

-- a refusal ends the pieces
is_last : (line code : ℕ) → IsLast (Refusal line code) []
is_last line code = record { line = line; code = code; is = refl; none_behind = refl }

-- a run that ends without a word, and in which nothing occurred
ended_speaks : (left : List Numbered) (status : Status) (cluster : Cluster) → IsSpoken left cluster (ending status cluster)
ended_speaks left status cluster =
    record { from = refl; pieces = []; text = refl; silent = []; said = refl; all = λ well. refl; in_order = tt }

-- a run that is refused there
refused_speaks : (left : List Numbered) (line code : ℕ) (cluster : Cluster) → IsSpoken left cluster (refused_at line code cluster)
refused_speaks left line code cluster = record {
  from = refl;
  pieces = Refusal line code ∷ [];
  text = refl;
  silent = [];
  said = refl;
  all = λ well. refl;
  in_order = inl (is_last line code);
}

-- a run that goes on behind a command that has written
behind_speaks : (first : Numbered) (others : List Numbered) (start : Cluster) (it : Effect) (later : Played) → it.cluster ≡ cluster_run start it.occurred
    → HasWritten first.command start it → IsSpoken others it.cluster later → IsSpoken (first ∷ others) start (behind (it.text ∷ []) it.occurred later)
behind_speaks first others start it later from written spoken = record {
  from = grind (arith, cluster_run, runs_join, spoken.from, later.occurred, it.occurred);
  pieces = written.piece ∷ spoken.pieces;
  text = grind (arith, piece_text, later.pieces, written.text, written.piece, spoken.text);
  silent = spoken.silent;
  said = said_joins start it.occurred later.occurred
      ∙ ap (λ (cluster : Cluster). said_along start it.occurred ++ said_along cluster later.occurred) (sym from)
      ∙ ap (λ (said : List Said). said_along start it.occurred ++ said) spoken.said
      ∙ ap (λ (said : List Said). said ++ (pieces_said spoken.pieces ++ spoken.silent)) (sym written.said)
      ∙ sym (append_assoc (piece_said written.piece) (pieces_said spoken.pieces) spoken.silent)
      ∙ ap (λ (said : List Said). said ++ spoken.silent) (sym (flat_map-cons piece_said written.piece spoken.pieces));
  all = spoken.all;
  in_order = grind (arith, it.occurred, later.occurred, written.of, spoken.pieces, spoken.in_order);
}

-- a run that ends at a command with nothing written; what clients said at it is silent
silent_speaks : (left : List Numbered) (start : Cluster) (it : Effect) (status : Status) → it.cluster ≡ cluster_run start it.occurred
    → ((status ≡ Done) ⊎ (status ≡ Refused) → ⊥) → IsSpoken left start (behind [] it.occurred (ending status it.cluster))
silent_speaks left start it status from stops = grind (arith, cluster_run, append-nil, said_along)

stopped_speaks : (left : List Numbered) (start : Cluster) (line : ℕ) (it : Effect) (stop : Stop) → it.cluster ≡ cluster_run start it.occurred
    → ((code : ℕ) → stop ≡ Refuses code → it.occurred ≡ []) → IsSpoken left start (behind [] it.occurred (stopped_at line stop it.cluster))
stopped_speaks left start line it (Refuses code) from refused = record {
  from = from ∙ ap (cluster_run start) (sym (append-nil it.occurred));
  pieces = Refusal line code ∷ [];
  text = refl;
  silent = [];
  said = ap (λ (occurred : List Occurrence). said_along start (occurred ++ [])) (refused code refl);
  all = λ well. refl;
  in_order = inl (is_last line code);
}
stopped_speaks left start line it (Wears number) from refused =
    silent_speaks left start it Worn from (⊎_elim (λ (is : Worn ≡ Done). absurd (cc is)) (λ (is : Worn ≡ Refused). absurd (cc is)))
stopped_speaks left start line it (Fails rounds) from refused = silent_speaks left start it ReplicaFault from
    (⊎_elim (λ (is : ReplicaFault ≡ Done). absurd (cc is)) (λ (is : ReplicaFault ≡ Refused). absurd (cc is)))
stopped_speaks left start line it Pauses from refused =
    silent_speaks left start it NoMemory from (⊎_elim (λ (is : NoMemory ≡ Done). absurd (cc is)) (λ (is : NoMemory ≡ Refused). absurd (cc is)))

continued_speaks : (first : Numbered) (others : List Numbered) (start : Cluster) (line : ℕ) (it : Effect) (stop : Option Stop) (rest : Cluster → Played) → it.stop ≡ stop
    → it.cluster ≡ cluster_run start it.occurred → IsWriting first.command start it → IsSpoken others it.cluster (rest it.cluster)
    → IsSpoken (first ∷ others) start (continued line it stop rest)
continued_speaks first others start line it stop rest is from writes later = grind (arith, stopped_speaks, behind_speaks)

in_speaks : (commands : List Numbered) (fates : List (List Fate)) (cluster : Cluster)
    → IsSpoken commands cluster (played_in commands fates cluster)
in_speaks [] fates cluster = ended_speaks [] Done cluster
in_speaks (first ∷ others) fates cluster =
    let it : Effect = effect_within cluster first.command (first_fates fates) in
    continued_speaks first others cluster first.line it it.stop (λ next. played_in others (other_fates fates) next) refl
    (within_from cluster first.command (first_fates fates)) (within_writes cluster first.command (first_fates fates))
    (in_speaks others (other_fates fates) it.cluster)

-- ---- from the start

-- a run began in a new cluster
record IsSpokenAnew (left : List Numbered) (it : Played) : Type 0 where
  pub masters : ℕ
  pub backups : ℕ
  pub spoken : IsSpoken left (new_cluster masters backups) it

-- in that of a setting
anew_by : (left : List Numbered) (setting : Setting) (it : Played) → IsSpoken left (cluster_by setting) it → IsSpokenAnew left it
anew_by left setting it spoken = record { masters = how_many setting.masters; backups = how_many setting.backups; spoken = spoken }

-- ---- the law

-- what a run that began in a new cluster says answers
answers : (left : List Numbered) (it : Played) → IsSpokenAnew left it → AreAnswers left it
answers left it anew =
    let start : Cluster = new_cluster anew.masters anew.backups in
    let spoken : IsSpoken left start it = anew.spoken in
    record {
      pieces = spoken.pieces;
      masters = anew.masters;
      backups = anew.backups;
      cluster_is = spoken.from;
      in_order = spoken.in_order;
      text = spoken.text;
      silent = λ client. replies_to client spoken.silent;
      receipts = λ client.
          ap (λ (cluster : Cluster). told_to cluster client) spoken.from ∙ receipts_said anew.masters anew.backups it.occurred client
          ∙ ap (replies_to client) spoken.said ∙ filter-append (is_reply_to client) (pieces_said spoken.pieces) spoken.silent;
      all = λ well client. ap (replies_to client) (spoken.all well);
    }

-- so does a part of a script
part_anew : (script : List ℕ) (part : Option ℕ) (fates : List (List Fate)) → IsSpokenAnew (acting_in part script) (played_part part script fates)
part_anew script part fates = opening (λ left one other. IsSpokenAnew left one) fates fates
    (λ left line code setting may. anew_by left setting (refused_at line code (cluster_by setting)) (refused_speaks left line code (cluster_by setting)))
    (λ setting may. anew_by [] setting (ending NoMemory (cluster_by setting)) (ended_speaks [] NoMemory (cluster_by setting)))
    (λ left setting may lawful widths. anew_by left setting (played_in left fates (cluster_by setting)) (in_speaks left fates (cluster_by setting)))
    script part

pub script_answers : (script : List ℕ) (part : Option ℕ) (fates : List (List Fate)) → AreAnswers (acting_in part script) (played_part part script fates)
script_answers script part fates = answers (acting_in part script) (played_part part script fates) (part_anew script part fates)
