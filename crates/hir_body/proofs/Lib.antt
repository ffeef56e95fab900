mod BodyLemmas
mod BodySound
