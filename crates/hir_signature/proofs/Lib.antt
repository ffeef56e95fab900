mod FirstOfName
mod GenericLists
mod SignatureLemmas
